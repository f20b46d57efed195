-- Private to the code, cited by no public contract. How what the code holds is seen: hide sets as sets of names, tokens as marked tokens.
use Rattle.std.specs.Prelude.{ℕ, ◌≡◌, Bool, true, false, ◌&&◌, ◌||◌, List, [], ◌∷◌, ◌++◌, map, bytes_eq, if◌then◌else◌, Option, Some, None, Result, Ok, Err, ◌⊎◌}
use Rattle.std.specs.declared.rc.Rc.{Rc}
use Rattle.macro_expand.specs.declared.hide_set.name_iter.NameIter.{NameIter}
use Rattle.macro_expand.specs.declared.hide_set.set.Name.{Name}
use Rattle.macro_expand.specs.declared.hide_set.set.HideSet.{HideSet}
use Rattle.macro_expand.specs.declared.hide_set.hidden_token.HiddenToken.{HiddenToken}
use Rattle.macro_expand.specs.declared.substitution.argument_pass.Argument.{Argument as HeldArgument}
use Rattle.macro_expand.specs.declared.substitution.argument_pass.Cell.{Cell}
use Rattle.macro_expand.specs.declared.substitution.argument_pass.Cell.TheVariants as cell
use Rattle.macro_expand.specs.declared.before.Before.{Before}
use Rattle.macro_expand.specs.declared.fault.ExpandFault.{ExpandFault}
use Rattle.macro_expand.specs.declared.fault.ExpandFault.TheVariants.{NoMemory}
use Rattle.pp_tokens.specs.declared.token.Token.{Token}
use Rattle.pp_tokens.specs.declared.token.Kind.{Kind}
use Rattle.macro_expand.specs.Marked.{Names, no_names, Marked, is_named, is_paste, sound_kind}
use Rattle.macro_expand.specs.Listed.{names_in}
use Rattle.macro_expand.specs.Calls.{is_operator, paste_follows}
use Rattle.macro_expand.specs.Substituted.{Argument, Piece, Word, Placemarker, Joins}

-- the names of a list
abbrev pub members : List (List ℕ) → Names
members [] name = false
members (x ∷ xs) name = bytes_eq x name || members xs name

-- whether all names of the list are in the set
abbrev pub covers_names : Names → List (List ℕ) → Bool
covers_names names [] = true
covers_names names (x ∷ xs) = names x && covers_names names xs

-- those of the list that are not in the set
abbrev pub missing_names : Names → List (List ℕ) → List (List ℕ)
missing_names names [] = []
missing_names names (x ∷ xs) = if names x then missing_names names xs else x ∷ missing_names names xs

-- those of the list that are in the set
abbrev pub common_names : List (List ℕ) → Names → List (List ℕ)
common_names [] others = []
common_names (x ∷ xs) others = if others x then x ∷ common_names xs others else common_names xs others

-- what is in the first set is in the second
abbrev pub AreAmong : Names → Names → Type 0
AreAmong some others = (name : List ℕ) → some name ≡ true → others name ≡ true

-- the names of a list that are left
abbrev pub names_left : NameIter → List (List ℕ)
names_left left = names_in left.lengths.now left.text.now

-- the text of a name
abbrev pub name_text : Name → List ℕ
name_text name = name.text.value

-- the names of a set that has some
abbrev pub names_or_none : {X : Type 0} → Option (Rc (List (List ℕ)) X) → Names
names_or_none None = no_names
names_or_none (Some names) = members names.value

-- the names of a hide set
abbrev pub hidden_names : HideSet → Names
hidden_names set = names_or_none set.names

-- a token with its hide set
abbrev pub marked : HiddenToken → Marked
marked h = record { token = h.token; hides = hidden_names h.hides }

-- a list that is kept in reverse order
abbrev pub backwards : {A B : Type 0} → (A → B) → List A → List B
backwards f [] = []
backwards f (x ∷ xs) = backwards f xs ++ f x ∷ []

-- the kind of the only one of these tokens, where it has this text
abbrev pub kind_of_only : List Token → List ℕ → Option Kind
kind_of_only [] text = None
kind_of_only (t ∷ []) text = if bytes_eq t.text text then sound_kind (Some t.kind) else None
kind_of_only (t ∷ u ∷ ts) text = None

-- a call answers exactly what is read here, the value seen by view, or that memory ran out
abbrev pub Answers : {X A : Type 0} → (X → A) → Result X ExpandFault → Result A ExpandFault → Type 0
Answers view (Ok x) reading = reading ≡ Ok (view x)
Answers view (Err fault) reading = (fault ≡ NoMemory) ⊎ (reading ≡ Err fault)

-- an argument of a call
abbrev pub argument_of : HeldArgument → Argument
argument_of g = record { name = g.name; plain = map marked g.plain.items; expanded = map marked g.expanded.items }

-- a piece of a replacement list
abbrev pub piece_of : Cell → Piece
piece_of (cell.Word h) = Word (marked h)
piece_of (cell.Placemarker space) = Placemarker space
piece_of (cell.Joins t) = Joins t

-- pieces before those that are put in
abbrev pub onto : List Piece → Result (List Piece × Before) ExpandFault → Result (List Piece × Before) ExpandFault
onto pieces (Ok put) = Ok (pieces ++ put.0, put.1)
onto pieces (Err fault) = Err fault

-- whether the name is the next token, directly after an operator or directly before `##`
abbrev pub is_bound : List ℕ → Bool → List Token → Bool
is_bound name after_operator [] = false
is_bound name after_operator (t ∷ ts) = is_named name t && (after_operator || paste_follows ts)

-- whether the name is somewhere in a replacement list directly after `#` or `##` or directly before `##`
unfoldable pub stands_bound : List ℕ → Bool → List Token → Bool
stands_bound name after_operator [] = false
stands_bound name after_operator (t ∷ ts) = is_bound name after_operator (t ∷ ts) || stands_bound name (is_operator t) ts

-- whether `##` is among the tokens
abbrev pub has_paste : List Token → Bool
has_paste [] = false
has_paste (t ∷ ts) = is_paste t || has_paste ts

-- whether there is no argument
abbrev pub no_arguments : List Argument → Bool
no_arguments [] = true
no_arguments (a ∷ more) = false

-- the next parameter of those that are left, and those after it
abbrev pub ParamAt : Option (List ℕ) → List (List ℕ) → List (List ℕ) → Type 0
ParamAt (Some name) left behind = left ≡ name ∷ behind
ParamAt None left behind = left ≡ []
