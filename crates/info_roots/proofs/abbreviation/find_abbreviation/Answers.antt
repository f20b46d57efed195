use Rattle.std.proofs.Common.{◌≡◌, ◌+◌, ◌-◌, length, Some, Ok, ap, sym, ◌∙◌, arith}
use Rattle.std.specs.Option.{option_map}
use borrow.Author.Tests.{apart_eqb}
use Rattle.info_roots.specs.Abbreviations.{declaration_at, declaration_of}
use Rattle.info_roots.proofs.AbbreviationLemmas.{declared_more}
use Rattle.info_roots.proofs.abbreviation.find_abbreviation.Goals as goal

pub loop-index-preserved : goal.loop-index-preserved
loop-index-preserved c =
    let long = length c.args.section.now in
    let less : long - (c.loop-index._index + 1) ≡ long - c.loop-index._index - 1 = omega arith in
    let declaration = c.in-Ok-Some.declaration in
    let read : declaration_at long c.loop-index.cursor ≡ Ok (Some (declaration_of declaration), c.read_declaration.new.cursor) =
    c.in-Ok-Some.ensures ∙ ap (λ o. Ok (option_map declaration_of o, c.read_declaration.new.cursor)) c.in-Ok-Some.field-0-is in
    let more = declared_more long (long - c.loop-index._index) c.args.code c.loop-index.cursor c.read_declaration.new.cursor (declaration_of declaration) (omega arith) read (apart_eqb declaration.code c.args.code c.if-declaration-code.false) in
    rw less (sym more ∙ c.loop-index.invariant)
