use Rattle.std.proofs.Common.{◌<◌, length, Result, Ok, Err, OnOk, Some, None, ap, subst, sym, ◌∙◌}
use Rattle.mac_base.specs.Input.{Input, rest}
use Rattle.unit_header.specs.Header.{header_of}
use Rattle.std.specs.Option.{option_map}
use Rattle.macro_opcodes.specs.Entry.{entry_of}
use Rattle.import_graph.proofs.TurnLemmas.{said_turn, moves_by}
use Rattle.import_graph.proofs.unit.OpenUnit.turn.Goals as goal

pub returns-in-Some-clause-turn : goal.returns-in-Some-clause-turn
returns-in-Some-clause-turn g c = λ s lent paths look fits.
    said_turn s lent paths c.args.self.now c.take.new.self c.read_entry.new.cursor (entry_of c.in-Some.entry) c.take.result
    (c.in_ok-entry.ensures.entry ∙ ap (λ o. Ok (option_map entry_of o, c.read_entry.new.cursor)) c.in-Some.is) c.take.ensures.place (c.take.ensures.turn s lent paths look fits)

moved_past : {A E : Type 0} (P : Type 0) (r : Result A E) → P → OnOk r P
moved_past P (Ok x) is = is
moved_past P (Err e) is = tt

pub returns-in-Some-clause-moves : goal.returns-in-Some-clause-moves
returns-in-Some-clause-moves g c =
    moved_past (length (rest c.take.new.self.cursor) < length (rest c.args.self.now.cursor)) c.take.result
    (subst (λ (q : Input). length (rest q) < length (rest c.args.self.now.cursor)) (sym c.take.ensures.place)
    (moves_by (header_of c.args.self.now.header) c.args.self.now.cursor c.read_entry.new.cursor (Some (entry_of c.in-Some.entry)) (c.in_ok-entry.ensures.entry ∙ ap (λ o. Ok (option_map entry_of o, c.read_entry.new.cursor)) c.in-Some.is)))

pub returns-in-None-clause-moves : goal.returns-in-None-clause-moves
returns-in-None-clause-moves g c = moves_by (header_of c.args.self.now.header) c.args.self.now.cursor c.read_entry.new.cursor None (c.in_ok-entry.ensures.entry ∙ ap (λ o. Ok (option_map entry_of o, c.read_entry.new.cursor)) c.in-None.is)
