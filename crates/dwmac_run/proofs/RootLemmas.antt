-- A request names at most 255 folders, so that a path can hold its stores.
use Rattle.std.proofs.Common.{◌≡◌, ℕ, ◌≤◌, Bool, true, false, if◌then◌else◌, List, [], ◌∷◌, length, Option, Some, None, refl, ap, subst, sym, ◌∙◌, arith}
use Rattle.std.specs.Option.{option_map}
use Rattle.std.specs.Prelude.{nat_le}
use borrow.Author.Tests.{leb-true}
use Rattle.dwmac_run.specs.declared.commands.Verb.{Verb}
use Rattle.dwmac_run.specs.declared.commands.Verb.TheVariants.{Raw, Unit as UnitAt, Dump, Info, List as ListAt, Expand, Once, Events, Record, Help, Version}
use Rattle.dwmac_run.specs.declared.request.Request.{Request}
use Rattle.dwmac_run.specs.declared.request.Query.{Query}
use Rattle.dwmac_run.specs.declared.words.SplitWords.{SplitWords}
use Rattle.dwmac_run.specs.declared.operands.Operands.{Operands}
use Rattle.dwmac_run.specs.Commands.{row_of, verb_of}
use Rattle.dwmac_run.specs.Words.{no_words, split_words}
use Rattle.dwmac_run.specs.Operands.{no_operands, read_operands}
use Rattle.dwmac_run.specs.Command.{about, events_of, record_of, request_with, request_by, request_split, request_named, request_of, folders_of, labels_by, most_folders}

-- few folders, where there is a request
abbrev Few : Option Request → Type 0
Few None = Unit {0}
Few (Some request) = length (folders_of request) ≤ most_folders

few_about : (file : Option (List ℕ)) (query : Option Query) → Few (about file query)
few_about None query = tt
few_about (Some file) None = tt
few_about (Some file) (Some query) = omega arith

few_events : (source : Option (List ℕ)) (split : SplitWords) → length split.folders ≤ most_folders → Few (events_of source split)
few_events None split few = tt
few_events (Some source) split few = few

few_record : (source output : Option (List ℕ)) (split : SplitWords) → length split.folders ≤ most_folders → Few (record_of source output split)
few_record None output split few = tt
few_record (Some source) None split few = tt
few_record (Some source) (Some output) split few = few

few_with : (verb : Verb) (split : SplitWords) (read : Operands) → length split.folders ≤ most_folders → Few (request_with verb split read)
few_with Raw split read few = few_about read.file _
few_with UnitAt split read few = few_about read.file _
few_with Dump split read few = few_about read.file _
few_with Info split read few = few_about read.file _
few_with ListAt split read few = few_about read.file _
few_with Expand split read few = few_about read.file _
few_with Once split read few = few_about read.file _
few_with Events split read few = few_events read.file split few
few_with Record split read few = few_record read.file split.output split few
few_with Help split read few = omega arith
few_with Version split read few = omega arith

few_by : (verb : Verb) (split : SplitWords) (read : Option Operands) → length split.folders ≤ most_folders → Few (request_by verb split read)
few_by verb split None few = tt
few_by verb split (Some read) few = few_with verb split read few

few_tested : (verb : Verb) (split : SplitWords) (read : Option Operands) (t : Bool) → nat_le (length split.folders) most_folders ≡ t → Few (if t then request_by verb split read else None)
few_tested verb split read true is = few_by verb split read (leb-true (length split.folders) most_folders is)
few_tested verb split read false is = tt

few_split : (verb : Verb) (split : Option SplitWords) → Few (request_split verb split)
few_split verb None = tt
few_split verb (Some split) = few_tested verb split (read_operands (row_of verb).operands no_operands split.operands) (nat_le (length split.folders) most_folders) refl

few_named : (verb : Option Verb) (words : List (List ℕ)) → Few (request_named verb words)
few_named None words = tt
few_named (Some verb) words = few_split verb (split_words (row_of verb).options no_words words)

few_folders : (words : List (List ℕ)) → Few (request_of words)
few_folders [] = tt
few_folders (word ∷ words) = few_named (verb_of word) words

few_labels : (request : Option Request) (named : List (List ℕ)) → Few request → option_map labels_by request ≡ Some named → length named ≤ 256
few_labels None named few is = cc
few_labels (Some request) named few is =
    let same : labels_by request ≡ named = cc in
    subst (λ (xs : List (List ℕ)). length xs ≤ 256) same (omega arith)

-- the labels for the request that was found are few
pub few_found : (words named : List (List ℕ)) (found : Request) → Some found ≡ request_of words → named ≡ labels_by found → length named ≤ 256
few_found words named found is same = few_labels (request_of words) named (few_folders words) (ap (option_map labels_by) (sym is) ∙ ap (λ (xs : List (List ℕ)). Some xs) (sym same))
