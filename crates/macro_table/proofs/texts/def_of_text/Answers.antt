use Rattle.std.proofs.Common.{◌≡◌, List, Ok, subst}
use Rattle.std.proofs.lemmas.Result.{err_from_is_err_and}
use Rattle.pp_tokens.specs.declared.token.Token.{Token}
use Rattle.macro_table.specs.declared.fault.DefFault.TheVariants.{NoMemory as DefRanOut}
use Rattle.mac_base.specs.Answers.{IsFaultOf}
use Rattle.macro_table.specs.Definitions.{def_of}
use Rattle.macro_table.proofs.TextLemmas.{lex_stops, def_given, def_stops}
use Rattle.macro_table.proofs.texts.def_of_text.Goals as goal

pub returns-in_err-tokens : goal.returns-in_err-tokens
returns-in_err-tokens c =
    let p = err_from_is_err_and c.from_residual.result c.from_residual.ensures.1 in
    rw (p.1, p.2) (lex_stops c.args.text.now c.in_err-tokens.field-0.0 c.in_err-tokens.ensures)

pub returns-in_err-parse_define : goal.returns-in_err-parse_define
returns-in_err-parse_define c =
    let p = err_from_is_err_and c.from_residual-in_err-parse_define.result c.from_residual-in_err-parse_define.ensures.1 in
    let stops = subst (λ (ts : List Token). IsFaultOf DefRanOut (def_of ts) c.in_err-parse_define.field-0.0) c.as_slice.ensures c.in_err-parse_define.ensures in
    rw (p.1, p.2) (def_stops c.args.text.now c.in_ok-tokens.tokens c.in_err-parse_define.field-0.0 c.in_ok-tokens.ensures stops)

pub returns : goal.returns
returns c =
    let given = subst (λ (ts : List Token). def_of ts ≡ Ok c.in_ok-parse_define.field-0) c.as_slice.ensures c.in_ok-parse_define.ensures in
    def_given c.args.text.now c.in_ok-tokens.tokens c.in_ok-parse_define.field-0 c.in_ok-tokens.ensures given
