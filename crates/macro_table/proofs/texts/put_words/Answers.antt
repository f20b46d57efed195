use Rattle.std.proofs.Common.{◌++◌, ◌∷◌, [], if◌then◌else◌, nat_eq, ◌∙◌, sym, ap}
use lib.Chars.{codes}
use Rattle.std.specs.List.{join_with_byte}
use Rattle.macro_table.specs.Texts.{list_words}
use Rattle.macro_table.proofs.JoinLemmas.{join_next, join_last}
use Rattle.macro_table.proofs.texts.put_words.Goals as goal

pub loop-i-preserved : goal.loop-i-preserved
loop-i-preserved c =
    let grown = c.in_ok-put_word.ensures ∙ ap (λ word. c.loop-i.text.items ++ (if nat_eq c.loop-i.i 0 then [] else 44 ∷ []) ++ word) c.as_slice.ensures in
    join_next c.args.names.now c.loop-i.i c.index-names-i.result c.loop-i.text.items c.put_word.new.text.items c.loop-i-test.true c.index-names-i.is grown c.args.text.now.items c.loop-i.invariant

pub returns-in_ok-put_word-2 : goal.returns-in_ok-put_word-2
returns-in_ok-put_word-2 c =
    let whole = join_last c.args.names.now c.loop-i.i c.is_empty.result (codes "...") c.loop-i.text.items c.put_word-then-variadic.new.text.items c.loop-i-test.false c.is_empty.ensures c.in_ok-put_word-2.ensures c.args.text.now.items c.loop-i.invariant in
    whole ∙ ap (λ b. c.args.text.now.items ++ join_with_byte 44 (list_words c.args.names.now b)) (sym c.if-variadic.true)
