use Rattle.std.proofs.Common.{ℕ, Some, ◌∙◌, sym, subst}
use Rattle.macro_table.specs.Tables.{TableOf, entry_value}
use Rattle.macro_expand.specs.declared.rescan.parsed_macro.ParsedMacro.{ParsedMacro}
use Rattle.macro_expand.specs.Macros.{macros_of}
use Rattle.macro_expand.specs.ParsedMacros.{IsMeaning}
use Rattle.macro_expand.proofs.ParsedLemmas.{recalled, remembered, means_same, meaning_read}
use Rattle.macro_expand.proofs.rescan.parsed_macro.Definitions.read.Goals as goal

pub returns-in-Some-clause-found : goal.returns-in-Some-clause-found
returns-in-Some-clause-found c =
    subst (λ (t : TableOf ℕ). IsMeaning (Some c.in_ok-same.same) c.args.name.now (macros_of t c.args.name.now)) c.self.view_is
    (means_same c.in-Some.known.now c.in_ok-same.same c.args.name.now _ c.in_ok-same.ensures (recalled c.self.inside.table.now c.self.inside.known.entries c.args.name.now c.in-Some.known.now c.self.invariant.0 (sym c.in-Some.ensures)))

pub invariant_of-self-2 : goal.invariant_of-self-2
invariant_of-self-2 c =
    let v : ParsedMacro = record { name = c.in_ok-own.own; def = c.in_ok-def.def; number = c.in_ok-number.number } in (
      rw c.in_ok-remember.ensures.ok
          (remembered c.self.inside.table.now c.self.inside.known.entries c.in_ok-from_slice-2.field-0 v c.self.invariant.0
          (meaning_read c.self.inside.table.now c.args.name.now c.in_ok-from_slice-2.field-0.items c.as_slice.result.now (entry_value c.in-Some-get.entry.now) v c.in-Some-get.ensures c.in_ok-def.ensures c.as_slice.ensures
          (c.in_ok-own.ensures ∙ c.in_ok-from_slice.ensures.items) c.in_ok-from_slice-2.ensures.items)),
      c.add_name.ensures,
      c.self.invariant.2,
    )
