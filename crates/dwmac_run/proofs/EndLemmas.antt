-- How a run ends that prints a line.
use Rattle.std.proofs.Common.{◌≡◌, ℕ, List, [], ◌∷◌, inl, inr, subst, sym}
use Rattle.std.specs.Prelude.{codes}
use Rattle.std.specs.declared.vec.Vec.{Vec}
use Rattle.std.specs.declared.alloc.Global.{Global}
use Rattle.dwmac_run.specs.declared.outcome.NewFile.{NewFile}
use Rattle.dwmac_run.specs.declared.outcome.Outcome.{Outcome}
use Rattle.dwmac_run.specs.declared.outcome.Outcome.TheVariants.{Written, Usage as IsUsage, NoMemory as RanOut}
use Rattle.dwmac_run.specs.declared.status.Status.{Status}
use Rattle.dwmac_run.specs.declared.status.Status.TheVariants.{Usage, NoMemory}
use Rattle.dwmac_run.specs.Answers.{Answer, Prints, Refuses, Misuse}
use Rattle.dwmac_run.specs.Pieces.{line_text}
use Rattle.dwmac_run.specs.Refusals.{usage_line, no_memory_line}
use Rattle.dwmac_run.specs.Storing.{StoresSome}
use Rattle.dwmac_run.specs.Leaves.{State, KeepsFiles, StoresFew, Leaves}
use Rattle.dwmac_run.specs.Outcome.{answer_of, Ends, EndsSaying}

leaves_few : (files : List NewFile) (text : List ℕ) (result : Status) (old new : State) → StoresFew files old new → new.out ≡ old.out → EndsSaying no_memory_line NoMemory result old.err new.err → Leaves (Prints files text) result old new
leaves_few files text result old new few out (inl said) = subst (λ (s : Status). Leaves (Prints files text) s old new) (sym said.0) (few, (out, said.1))
leaves_few files text result old new few out (inr cut) = subst (λ (s : Status). Leaves (Prints files text) s old new) (sym cut.0) (inr (inr (few, (out, cut.1))))

leaves_usage : (result : Status) (old new : State) → KeepsFiles old new → new.out ≡ old.out → EndsSaying usage_line Usage result old.err new.err → Leaves Misuse result old new
leaves_usage result old new kept out (inl said) = subst (λ (s : Status). Leaves Misuse s old new) (sym said.0) (kept, (out, said.1))
leaves_usage result old new kept out (inr cut) = subst (λ (s : Status). Leaves Misuse s old new) (sym cut.0) (kept, inl (out, cut.1))

-- with the line on words that fit no command
pub ends_usage : (outcome : Outcome) (pieces : List (List ℕ)) (result : Status) (old new : State) → outcome ≡ IsUsage → pieces ≡ codes "usage" ∷ [] → KeepsFiles old new → new.out ≡ old.out →
    EndsSaying (line_text pieces) Usage result old.err new.err → Ends (answer_of outcome) result old new
ends_usage outcome pieces result old new is same kept out said =
    subst (λ (o : Outcome). Ends (answer_of o) result old new) (sym is)
    (leaves_usage result old new kept out (subst (λ (ps : List (List ℕ)). EndsSaying (line_text ps) Usage result old.err new.err) same said))

leaves_ran_out : (answer : Answer) (result : Status) (old new : State) → KeepsFiles old new → new.out ≡ old.out → EndsSaying no_memory_line NoMemory result old.err new.err → Leaves answer result old new
leaves_ran_out (Prints files text) result old new kept out said = leaves_few files text result old new (inl kept) out said
leaves_ran_out (Refuses line) result old new kept out (inl said) = subst (λ (s : Status). Leaves (Refuses line) s old new) (sym said.0) (kept, (out, said.1))
leaves_ran_out (Refuses line) result old new kept out (inr cut) = subst (λ (s : Status). Leaves (Refuses line) s old new) (sym cut.0) (kept, inr (out, cut.1))
leaves_ran_out Misuse result old new kept out (inl said) = subst (λ (s : Status). Leaves Misuse s old new) (sym said.0) (kept, (out, said.1))
leaves_ran_out Misuse result old new kept out (inr cut) = subst (λ (s : Status). Leaves Misuse s old new) (sym cut.0) (kept, inr (out, cut.1))

-- with the line on memory that ran out, whatever the answer is
pub ends_ran_out : (outcome : Outcome) (pieces : List (List ℕ)) (result : Status) (old new : State) → outcome ≡ RanOut → pieces ≡ codes "no memory" ∷ [] → KeepsFiles old new → new.out ≡ old.out →
    EndsSaying (line_text pieces) NoMemory result old.err new.err → Ends (answer_of outcome) result old new
ends_ran_out outcome pieces result old new is same kept out said =
    subst (λ (o : Outcome). Ends (answer_of o) result old new) (sym is)
    (λ (answer : Answer). leaves_ran_out answer result old new kept out (subst (λ (ps : List (List ℕ)). EndsSaying (line_text ps) NoMemory result old.err new.err) same said))

-- with this line, where memory ran out at one of the files
pub ends_few : (outcome : Outcome) (held : Vec NewFile Global) (files : List NewFile) (text : List ℕ) (pieces : List (List ℕ)) (result : Status) (old new : State) → outcome ≡ Written held text → files ≡ held.items → pieces ≡ codes "no memory" ∷ [] →
    StoresSome files old.files new.files → new.out ≡ old.out → EndsSaying (line_text pieces) NoMemory result old.err new.err → Ends (answer_of outcome) result old new
ends_few outcome held files text pieces result old new is all same some out said =
    subst (λ (o : Outcome). Ends (answer_of o) result old new) (sym is)
    (leaves_few held.items text result old new (inr (subst (λ (fs : List NewFile). StoresSome fs old.files new.files) all some)) out
    (subst (λ (ps : List (List ℕ)). EndsSaying (line_text ps) NoMemory result old.err new.err) same said))
