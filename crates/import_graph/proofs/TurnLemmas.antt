-- Reading an entry and taking it is one turn.
use Rattle.std.proofs.Common.{◌≡◌, inl, inr, ℕ, ◌<◌, List, [], ◌∷◌, length, Option, Some, None, Result, Ok, Err, ap, subst, sym, ◌∙◌, arith, length-append}
use Rattle.mac_base.specs.Input.{Input, rest, ◌>>=◌}
use Rattle.mac_base.specs.Spelling.{Between}
use Rattle.mac_base.specs.SectionBytes.{SectionBytes}
use Rattle.unit_header.specs.Header.{Header, header_of}
use Rattle.unit_header.specs.declared.fault.UnitFault.{UnitFault}
use Rattle.macro_opcodes.specs.Entry.{Entry}
use Rattle.macro_opcodes.specs.Reading.{entry_at}
use Rattle.macro_opcodes.specs.Spells.{IsEntry}
use Rattle.macro_opcodes.proofs.EntryLemmas.{entry_takes, close_takes}
use Rattle.import_graph.specs.declared.fault.FileFault.{FileFault}
use Rattle.import_graph.specs.declared.unit.OpenUnit.{OpenUnit}
use Rattle.import_graph.specs.declared.unit.Turn.{Turn as HeldTurn}
use Rattle.import_graph.specs.declared.unit.Turn.TheVariants.{Ends as HeldEnds, Passes as HeldPasses, Enters as HeldEnters}
use Rattle.import_graph.specs.Faults.{IsFaultOf, unit_part}
use Rattle.import_graph.specs.Meaning.{Lent}
use Rattle.import_graph.specs.Units.{Reader}
use Rattle.import_graph.specs.Walk.{turn_at, turn_behind}
use Rattle.import_graph.specs.Turns.{reader_of, entry_turn, EntrySays, TurnSays}

-- what was read decides the turn
pub turn_by_read : (s : SectionBytes) (lent : Lent) (unit : Reader) (files : ℕ) (p : Input) (read : Result (Option Entry × Input) UnitFault) → entry_at unit.header p ≡ read → turn_at s lent unit files p ≡ (unit_part read >>= turn_behind s lent unit files p)
unfolding turn_at
turn_by_read s lent unit files p read is = ap (λ (r : Result (Option Entry × Input) UnitFault). unit_part r >>= turn_behind s lent unit files p) is

fault_by : {Y : Type 0} (one other : Result Y FileFault) (fault : FileFault) → other ≡ one → IsFaultOf one fault → IsFaultOf other fault
fault_by one other fault same (inl ran) = inl ran
fault_by one other fault same (inr is) = inr (same ∙ is)

said_here : (s : SectionBytes) (lent : Lent) (paths : List (List ℕ)) (old new : OpenUnit) (e : Entry) (r : Result HeldTurn FileFault) →
    entry_at (header_of old.header) old.cursor ≡ Ok (Some e, new.cursor) → EntrySays s lent paths e (record old { cursor = new.cursor }) new r → TurnSays s lent paths old new r
said_here s lent paths old new e (Ok HeldEnds) read says = absurd says
said_here s lent paths old new e (Ok HeldPasses) read says = (e, read, says)
said_here s lent paths old new e (Ok (HeldEnters at target)) read says = (e, read, says)
said_here s lent paths old new e (Err fault) read says =
    fault_by (entry_turn s lent paths e (record old { cursor = new.cursor })) (turn_at s lent (reader_of paths old) old.open_files old.cursor) fault
    (turn_by_read s lent (reader_of paths old) old.open_files old.cursor (Ok (Some e, new.cursor)) read) says

pub said_turn : (s : SectionBytes) (lent : Lent) (paths : List (List ℕ)) (old new : OpenUnit) (q : Input) (e : Entry) (r : Result HeldTurn FileFault) →
    entry_at (header_of old.header) old.cursor ≡ Ok (Some e, q) → new.cursor ≡ q → EntrySays s lent paths e (record old { cursor = q }) new r → TurnSays s lent paths old new r
said_turn s lent paths old new q e r read place says =
    said_here s lent paths old new e r (read ∙ ap (λ (i : Input). Ok (Some e, i)) (sym place)) (subst (λ (i : Input). EntrySays s lent paths e (record old { cursor = i }) new r) (sym place) says)

some_bytes : (h : Header) (bytes : List ℕ) (e : Entry) → IsEntry h bytes e → 0 < length bytes
some_bytes h [] e is = absurd is
some_bytes h (b ∷ bytes) e is = omega arith

less_left : (p q : Input) (bytes : List ℕ) → Between p q bytes → 0 < length bytes → length (rest q) < length (rest p)
less_left p q bytes between some = omega (arith, ap length between.front, length-append bytes (rest q))

-- the cursor moves on behind an entry, and behind the closing 0
pub moves_by : (h : Header) (p q : Input) (o : Option Entry) → entry_at h p ≡ Ok (o, q) → length (rest q) < length (rest p)
moves_by h p q (Some e) is = let found = entry_takes h p q e is in less_left p q found.0 found.1 (some_bytes h found.0 e found.2)
moves_by h p q None is = less_left p q (0 ∷ []) (close_takes h p q is) (omega arith)
