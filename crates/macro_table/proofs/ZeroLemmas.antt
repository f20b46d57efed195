-- Where a text or a file has no byte 0, no token has one.
use Rattle.std.proofs.Common.{◌≡◌, ℕ, eqb, Bool, true, false, cond, ◌&&◌, List, [], ◌∷◌, ◌++◌, Option, Some, None, refl, ◌∙◌, ap}
use Rattle.pp_tokens.specs.Cleaning.{Char, bytes_of, numbered, without_cr, trigraph, trigraph_of, replaced, without_trigraphs, spliced, cleaned, on_line_one, first_nul}
use Rattle.macro_table.proofs.ListLemmas.{NoNul}

abbrev pub NoZero : List Char → Type 0
NoZero [] = Unit {0}
NoZero (c ∷ cs) = (eqb c.byte 0 ≡ false) × NoZero cs

no_zero_by : (t : Bool) (n : ℕ) (o : Option ℕ) → cond {A = Option ℕ} t (Some n) o ≡ None → (t ≡ false) × (o ≡ None)
no_zero_by true n o is = cc
no_zero_by false n o is = (refl, is)

pub no_zero : (cs : List Char) → first_nul cs ≡ None → NoZero cs
no_zero [] is = tt
no_zero (c ∷ cs) is = let parts = no_zero_by (eqb c.byte 0) c.line (first_nul cs) is in (parts.0, no_zero cs parts.1)

pub zero_front : (xs ys : List Char) → NoZero (xs ++ ys) → NoZero xs
zero_front [] ys none = tt
zero_front (x ∷ xs) ys none = (none.0, zero_front xs ys none.1)

pub zero_back : (xs ys : List Char) → NoZero (xs ++ ys) → NoZero ys
zero_back [] ys none = none
zero_back (x ∷ xs) ys none = zero_back xs ys none.1

pub nul_text : (cs : List Char) → NoZero cs → NoNul (bytes_of cs)
nul_text [] none = refl
nul_text (c ∷ cs) none = ap (λ t. cond {A = Option ℕ} t (Some 1) (first_nul (on_line_one (bytes_of cs)))) none.0 ∙ nul_text cs none.1

choose : (P : List Char → Type 0) (t : Bool) (xs ys : List Char) → P xs → P ys → P (cond t xs ys)
choose P true xs ys first second = first
choose P false xs ys first second = second

returns_kept : (cs : List Char) → NoZero cs → NoZero (without_cr cs)
returns_kept [] none = tt
returns_kept (c ∷ []) none = none
returns_kept (c ∷ d ∷ cs) none =
    choose NoZero ((eqb c.byte 13) && (eqb d.byte 10)) (without_cr (d ∷ cs)) (c ∷ without_cr (d ∷ cs)) (returns_kept (d ∷ cs) none.1) (none.0, returns_kept (d ∷ cs) none.1)

abbrev NoZeroByte : Option ℕ → Type 0
NoZeroByte None = Unit {0}
NoZeroByte (Some b) = eqb b 0 ≡ false

or_else : (t : Bool) (b : ℕ) (o : Option ℕ) → eqb b 0 ≡ false → NoZeroByte o → NoZeroByte (cond t (Some b) o)
or_else true b o first rest = first
or_else false b o first rest = rest

trigraph_kept : (third : ℕ) → NoZeroByte (trigraph third)
trigraph_kept third =
    or_else (eqb third 61) 35 _ refl (or_else (eqb third 40) 91 _ refl (or_else (eqb third 47) 92 _ refl (or_else (eqb third 41) 93 _ refl (or_else (eqb third 39) 94 _ refl
    (or_else (eqb third 60) 123 _ refl (or_else (eqb third 33) 124 _ refl (or_else (eqb third 62) 125 _ refl (or_else (eqb third 45) 126 None refl tt))))))))

trigraph_of_kept : (t : Bool) (third : ℕ) → NoZeroByte (cond t (trigraph third) None)
trigraph_of_kept true third = trigraph_kept third
trigraph_of_kept false third = tt

replaced_kept : (o : Option ℕ) (line : ℕ) (xs ys : List Char) → NoZeroByte o → NoZero xs → NoZero ys → NoZero (replaced o line xs ys)
replaced_kept None line xs ys byte first second = second
replaced_kept (Some b) line xs ys byte first second = (byte, first)

plain_kept : (cs : List Char) → NoZero cs → NoZero (without_trigraphs cs)
plain_kept [] none = tt
plain_kept (a ∷ []) none = none
plain_kept (a ∷ b ∷ []) none = none
plain_kept (a ∷ b ∷ c ∷ cs) none =
    replaced_kept (trigraph_of a b c) a.line (without_trigraphs cs) (a ∷ without_trigraphs (b ∷ c ∷ cs)) (trigraph_of_kept ((eqb a.byte 63) && (eqb b.byte 63)) c.byte) (plain_kept cs none.1.1.1) (none.0, plain_kept (b ∷ c ∷ cs) none.1)

spliced_kept : (cs : List Char) → NoZero cs → NoZero (spliced cs)
spliced_kept [] none = tt
spliced_kept (c ∷ []) none = none
spliced_kept (c ∷ d ∷ cs) none = choose NoZero ((eqb c.byte 92) && (eqb d.byte 10)) (spliced cs) (c ∷ spliced (d ∷ cs)) (spliced_kept cs none.1.1) (none.0, spliced_kept (d ∷ cs) none.1)

pub cleaned_kept : (file : List ℕ) → first_nul (numbered 1 file) ≡ None → NoZero (cleaned file)
cleaned_kept file is = spliced_kept _ (plain_kept _ (returns_kept _ (no_zero (numbered 1 file) is)))
