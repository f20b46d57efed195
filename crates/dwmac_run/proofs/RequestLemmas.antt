-- What a command asks for, by its words as they were split.
use Rattle.std.proofs.Common.{◌≡◌, ℕ, ◌≤◌, Bool, true, if◌then◌else◌, List, length, Option, Some, None, refl, ap, sym, ◌∙◌}
use Rattle.std.specs.Prelude.{nat_le}
use borrow.Author.Tests.{le-leb}
use Rattle.dwmac_run.specs.declared.commands.Verb.{Verb}
use Rattle.dwmac_run.specs.declared.request.Request.{Request}
use Rattle.dwmac_run.specs.declared.words.SplitWords.{SplitWords}
use Rattle.dwmac_run.specs.declared.operands.Operands.{Operands}
use Rattle.dwmac_run.specs.Commands.{Row, row_of}
use Rattle.dwmac_run.specs.Words.{no_words, split_words}
use Rattle.dwmac_run.specs.Operands.{no_operands, read_operands}
use Rattle.dwmac_run.specs.Command.{request_by, request_split, request_for, most_folders}

tested : (verb : Verb) (split : SplitWords) (read : Option Operands) → length split.folders ≤ most_folders → request_by verb split read ≡ (if nat_le (length split.folders) most_folders then request_by verb split read else None)
tested verb split read few = ap (λ (t : Bool). if t then request_by verb split read else None) (sym (le-leb (length split.folders) most_folders few))

-- where the words were split, and the folders are few
pub request_found : (row : Row) (verb : Verb) (words items : List (List ℕ)) (found : Option SplitWords) (split : SplitWords) (count : ℕ) (read : Option Operands) (result : Option Request) →
    row ≡ row_of verb → found ≡ split_words row.options no_words words → found ≡ Some split → count ≡ length split.folders → count ≤ most_folders → items ≡ split.operands →
    read ≡ read_operands row.operands no_operands items → result ≡ request_by verb split read → result ≡ request_for verb words
request_found row verb words items found split count read result row_is found_is is counted few items_are read_is result_is =
    let whole : split_words (row_of verb).options no_words words ≡ Some split = ap (λ (r : Row). split_words r.options no_words words) (sym row_is) ∙ sym found_is ∙ is in
    let operands : read ≡ read_operands (row_of verb).operands no_operands split.operands =
    read_is ∙ ap (λ (xs : List (List ℕ)). read_operands row.operands no_operands xs) items_are ∙ ap (λ (r : Row). read_operands r.operands no_operands split.operands) row_is in
    let within : length split.folders ≤ most_folders = rw (← counted) few in
    result_is ∙ ap (λ (o : Option Operands). request_by verb split o) operands ∙ tested verb split (read_operands (row_of verb).operands no_operands split.operands) within ∙ sym (ap (λ (o : Option SplitWords). request_split verb o) whole)
