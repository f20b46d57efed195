-- What is remembered of a table.
use Rattle.std.proofs.Common.{◌≡◌, ℕ, Bool, true, false, cond, List, [], ◌∷◌, Option, Some, None, refl, sym, ap, subst, ◌∙◌}
use Rattle.std.specs.Prelude.{Vec}
use Rattle.std.specs.declared.cmp.Ordering.{Ordering}
use Rattle.std.specs.declared.cmp.Ordering.TheVariants.{Less, Equal, Greater}
use Rattle.std.specs.Ordering.{nat_cmp, is_eq, match_ordering}
use Rattle.std.specs.Cmp.Lexicographic.{slice_cmp}
use Rattle.std.specs.Map.{lookup}
use Rattle.std.specs.BTreeMap.{insert_entry}
use Rattle.std.specs.FinMap as finite
use Rattle.std.specs.Option.{option_map}
use Rattle.macro_table.specs.Texts.{def_of_text}
use Rattle.macro_table.specs.Tables.{EntryValue, TableOf}
use Rattle.macro_expand.specs.declared.rescan.parsed_macro.ParsedMacro.{ParsedMacro}
use Rattle.macro_expand.specs.Macros.{macros_of, sound_def}
use Rattle.macro_expand.specs.States.{name_text}
use Rattle.macro_expand.specs.ParsedMacros.{parsed_def, parsed_value, IsMeaning, AreParsed}
use Rattle.mac_base.proofs.TestLemmas.{is_equal}

same_name : (a b : List ℕ) → slice_cmp nat_cmp a b ≡ Equal → a ≡ b
same_name a b e = finite.slice_cmp-IsAntisymmetric finite.nat_cmp-IsAntisymmetric a b e

module _ {A : Type 0} (table : TableOf ℕ) where
  means : Vec ℕ A → ParsedMacro → Type 0
  means k v = IsMeaning (Some v) k.items (macros_of table k.items)

  -- what is recalled is what the table says
  pub recalled : (es : List (Vec ℕ A × ParsedMacro)) (q : List ℕ) (v : ParsedMacro) → AreParsed table es → lookup (λ (key : Vec ℕ A). is_eq (slice_cmp nat_cmp q key.items)) es ≡ Some v → IsMeaning (Some v) q (macros_of table q)
  recalled [] q v all e = cc
  recalled (x ∷ xs) q v all e = go (is_eq (slice_cmp nat_cmp q x.0.items)) refl e (recalled xs q v all.1)
    where
      go : (t : Bool) → is_eq (slice_cmp nat_cmp q x.0.items) ≡ t → cond t (Some x.1) (lookup (λ (key : Vec ℕ A). is_eq (slice_cmp nat_cmp q key.items)) xs) ≡ Some v
          → (lookup (λ (key : Vec ℕ A). is_eq (slice_cmp nat_cmp q key.items)) xs ≡ Some v → IsMeaning (Some v) q (macros_of table q)) → IsMeaning (Some v) q (macros_of table q)
      go true t e r = subst (λ (y : ParsedMacro). IsMeaning (Some y) q (macros_of table q)) (some_same x.1 v e) (subst (λ (n : List ℕ). IsMeaning (Some x.1) n (macros_of table n)) (sym (same_name q x.0.items (is_equal _ t))) all.0)
        where
          some_same : (a b : ParsedMacro) → Some a ≡ Some b → a ≡ b
          some_same a b e = cc
      go false t e r = r e

  -- a name more is remembered
  pub remembered : (es : List (Vec ℕ A × ParsedMacro)) (k : Vec ℕ A) (v : ParsedMacro) → AreParsed table es → IsMeaning (Some v) k.items (macros_of table k.items) → AreParsed table (insert_entry (λ a b. slice_cmp nat_cmp a.items b.items) es k v)
  remembered [] k v all m = (m, tt)
  remembered (x ∷ xs) k v all m = go (slice_cmp nat_cmp k.items x.0.items) refl (remembered xs k v all.1 m)
    where
      go : (o : Ordering) → slice_cmp nat_cmp k.items x.0.items ≡ o → AreParsed table (insert_entry (λ a b. slice_cmp nat_cmp a.items b.items) xs k v)
          → AreParsed table (match_ordering o ((k, v) ∷ x ∷ xs) ((x.0, v) ∷ xs) (x ∷ insert_entry (λ a b. slice_cmp nat_cmp a.items b.items) xs k v))
      go Less e r = (m, all)
      go Equal e r = (subst (λ (n : List ℕ). IsMeaning (Some v) n (macros_of table n)) (same_name k.items x.0.items e) m, all.1)
      go Greater e r = (all.0, r)

-- the same of another value with this name and definition
pub means_same : (v w : ParsedMacro) (q : List ℕ) (said : _) → parsed_value w ≡ parsed_value v → IsMeaning (Some v) q said → IsMeaning (Some w) q said
means_same v w q said e m = (m.0 ∙ ap (λ (p : List ℕ × _). Some p.1) (sym e), ap (λ (p : List ℕ × _). p.0) e ∙ m.1)

-- the meaning of a name that was found in the table
pub meaning_read : (table : TableOf ℕ) (name key text : List ℕ) (entry : EntryValue ℕ) (v : ParsedMacro) → Some entry ≡ finite.get table name → parsed_def v ≡ sound_def (def_of_text text) → text ≡ entry.text → name_text v.name ≡ name → key ≡ name → IsMeaning (Some v) key (macros_of table key)
meaning_read table name key text entry v g d t n k =
    subst (λ (q : List ℕ). IsMeaning (Some v) q (macros_of table q)) (sym k)
    (ap (option_map (λ (e : EntryValue ℕ). sound_def (def_of_text e.text))) (sym g) ∙ ap Some (ap (λ x. sound_def (def_of_text x)) (sym t) ∙ sym d), n)

-- the same of another value with this name and definition, where the name may stand for nothing
pub meaning_same : (v w : Option ParsedMacro) (q : List ℕ) (said : _) → option_map parsed_value w ≡ option_map parsed_value v → IsMeaning v q said → IsMeaning w q said
meaning_same None None q said e m = m
meaning_same None (Some w) q said e m = cc
meaning_same (Some v) None q said e m = cc
meaning_same (Some v) (Some w) q said e m = means_same v w q said (values_same (parsed_value w) (parsed_value v) e) m
  where
    values_same : {X : Type 0} (x y : X) → Some x ≡ Some y → x ≡ y
    values_same x y e = cc

-- what was looked up is what the table says
pub recent_right : (table said : TableOf ℕ) (v w : Option ParsedMacro) (name key : List ℕ) → table ≡ said → key ≡ name → option_map parsed_value w ≡ option_map parsed_value v → IsMeaning v name (macros_of said name) → IsMeaning w key (macros_of table key)
recent_right table said v w name key t k e m =
    subst (λ (q : List ℕ). IsMeaning w q (macros_of table q)) (sym k) (subst (λ (x : TableOf ℕ). IsMeaning w name (macros_of x name)) (sym t) (meaning_same v w name (macros_of said name) e m))
