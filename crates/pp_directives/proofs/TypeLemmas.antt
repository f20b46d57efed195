-- The value of a tree is of the tree's type, and its faults are those of an evaluation.
use Rattle.std.proofs.Common.{◌≡◌, ℕ, ◌/◌, ◌%◌, ◌^◌, Bool, true, false, not, ◌||◌, if◌then◌else◌, ℤ, pos, negsuc, ◌+ℤ◌, ◌-ℤ◌, ◌*ℤ◌, neg_ℤ, Option, Some, None, Ok, Err, refl, subst, bit_and, bit_or, bit_xor}
use Rattle.std.specs.Prelude.{int_div}
use Rattle.mac_base.specs.Input.{◌>>=◌}
use Rattle.pp_directives.specs.declared.fault.ExprFault.{ExprFault}
use Rattle.pp_directives.specs.declared.fault.ExprFault.TheVariants.{Overflow, ZeroDivisor}
use Rattle.pp_directives.specs.declared.expression.number.Number.{Number}
use Rattle.pp_directives.specs.declared.expression.number.Number.TheVariants.{Signed, Unsigned}
use Rattle.pp_directives.specs.declared.expression.symbol.Infix.{Infix}
use Rattle.pp_directives.specs.declared.expression.symbol.Infix.TheVariants.{LogicalOr, LogicalAnd, Or, Xor, And, Equal, Unequal, Less, Greater, AtMost, AtLeast, ShiftLeft, ShiftRight, Add, Subtract, Multiply, Divide, Remain}
use Rattle.pp_directives.specs.declared.expression.symbol.Prefix.{Prefix}
use Rattle.pp_directives.specs.declared.expression.symbol.Prefix.TheVariants.{Plus, Minus, Complement, Not}
use Rattle.pp_directives.specs.Numbers.{Computed, is_unsigned, bits_of, is_zero, of_bits, converted, is_in_range, signed, truth, sum_of, difference_of, product_of, divided, quotient_of, remainder_of, bitwise, places_of, shifted_by, times_power, over_power, left_shift_of, right_shift_of, negated}
use Rattle.pp_directives.specs.ValueLaws.{is_value_fault}
use Rattle.pp_directives.specs.Expressions.{Tree, Leaf, Unary, Binary, Choice}
use Rattle.pp_directives.specs.Values.{prefixed, prefixed_type, truth_of, infixed, infixed_type, chosen, type_of, value_of}

-- the result is of that type, or it is a fault of an evaluation
abbrev OfType : Bool → Computed → Type 0
OfType u (Ok n) = is_unsigned n ≡ u
OfType u (Err fault) = is_value_fault fault ≡ true

either : (u test : Bool) (a b : Computed) → OfType u a → OfType u b → OfType u (if test then a else b)
either u true a b p q = p
either u false a b p q = q

after : (u v : Bool) (a : Computed) (f : Number → Computed) → OfType u a → ((x : Number) → is_unsigned x ≡ u → OfType v (f x)) → OfType v (a >>= f)
after u v (Ok x) f p q = q x p
after u v (Err fault) f p q = p

of_signed : (z : ℤ) → OfType false (signed z)
of_signed z = either false (is_in_range z) (Ok (Signed z)) (Err Overflow) refl refl

of_of_bits : (u : Bool) (n : ℕ) → is_unsigned (of_bits u n) ≡ u
of_of_bits true n = refl
of_of_bits false n = refl

of_sum : (a b : Number) → OfType (is_unsigned a || is_unsigned b) (sum_of a b)
of_sum (Signed x) (Signed y) = of_signed (x +ℤ y)
of_sum (Signed x) (Unsigned n) = refl
of_sum (Unsigned m) (Signed y) = refl
of_sum (Unsigned m) (Unsigned n) = refl

of_difference : (a b : Number) → OfType (is_unsigned a || is_unsigned b) (difference_of a b)
of_difference (Signed x) (Signed y) = of_signed (x -ℤ y)
of_difference (Signed x) (Unsigned n) = refl
of_difference (Unsigned m) (Signed y) = refl
of_difference (Unsigned m) (Unsigned n) = refl

of_product : (a b : Number) → OfType (is_unsigned a || is_unsigned b) (product_of a b)
of_product (Signed x) (Signed y) = of_signed (x *ℤ y)
of_product (Signed x) (Unsigned n) = refl
of_product (Unsigned m) (Signed y) = refl
of_product (Unsigned m) (Unsigned n) = refl

of_divided : (u : Bool) (b : Number) (a : Computed) → OfType u a → OfType u (divided b a)
of_divided u b a p = either u (is_zero b) (Err ZeroDivisor) a refl p

of_quotient : (a b : Number) → OfType (is_unsigned a || is_unsigned b) (quotient_of a b)
of_quotient (Signed x) (Signed y) = of_divided false (Signed y) (signed (int_div x y)) (of_signed (int_div x y))
of_quotient (Signed x) (Unsigned n) = of_divided true (Unsigned n) (Ok (Unsigned (bits_of (Signed x) / n))) refl
of_quotient (Unsigned m) (Signed y) = of_divided true (Signed y) (Ok (Unsigned (m / bits_of (Signed y)))) refl
of_quotient (Unsigned m) (Unsigned n) = of_divided true (Unsigned n) (Ok (Unsigned (m / n))) refl

of_remainder : (a b : Number) → OfType (is_unsigned a || is_unsigned b) (remainder_of a b)
of_remainder (Signed x) (Signed y) = of_divided false (Signed y) (Ok (Signed _)) refl
of_remainder (Signed x) (Unsigned n) = of_divided true (Unsigned n) (Ok (Unsigned (bits_of (Signed x) % n))) refl
of_remainder (Unsigned m) (Signed y) = of_divided true (Signed y) (Ok (Unsigned (m % bits_of (Signed y)))) refl
of_remainder (Unsigned m) (Unsigned n) = of_divided true (Unsigned n) (Ok (Unsigned (m % n))) refl

of_bitwise : (op : ℕ → ℕ → ℕ) (a b : Number) → OfType (is_unsigned a || is_unsigned b) (bitwise op a b)
of_bitwise op a b = of_of_bits (is_unsigned a || is_unsigned b) (op (bits_of a) (bits_of b))

of_times : (a : Number) (n : ℕ) → OfType (is_unsigned a) (times_power a n)
of_times (Signed z) n = of_signed (z *ℤ pos (2 ^ n))
of_times (Unsigned m) n = refl

of_over : (a : Number) (n : ℕ) → OfType (is_unsigned a) (over_power a n)
of_over (Signed (pos m)) n = refl
of_over (Signed (negsuc m)) n = refl
of_over (Unsigned m) n = refl

of_shift : (u : Bool) (places : Option ℕ) (f : ℕ → Computed) → ((n : ℕ) → OfType u (f n)) → OfType u (shifted_by places f)
of_shift u None f p = refl
of_shift u (Some n) f p = p n

-- an operator in the common type of its operands
in_common : (f : Number → Number → Computed) → ((a b : Number) → OfType (is_unsigned a || is_unsigned b) (f a b)) → (x : Number) (v : Bool) (b : Computed) → OfType v b →
    OfType (is_unsigned x || v) (b >>= f x)
in_common f p x v b h = after v (is_unsigned x || v) b (f x) h (λ y e. subst (λ w. OfType (is_unsigned x || w) (f x y)) e (p x y))

in_left : (f : Number → Number → Computed) → ((a b : Number) → OfType (is_unsigned a) (f a b)) → (x : Number) (v : Bool) (b : Computed) → OfType v b → OfType (is_unsigned x) (b >>= f x)
in_left f p x v b h = after v (is_unsigned x) b (f x) h (λ y e. p x y)

tested : (test : Number → Bool) (v : Bool) (b : Computed) → OfType v b → OfType false (b >>= λ y. truth (test y))
tested test v b h = after v false b (λ y. truth (test y)) h (λ y e. refl)

of_truth : (v : Bool) (b : Computed) → OfType v b → OfType false (truth_of b)
of_truth v b h = after v false b (λ y. truth (not (is_zero y))) h (λ y e. refl)

of_infix : (op : Infix) (x : Number) (v : Bool) (b : Computed) → OfType v b → OfType (infixed_type op (is_unsigned x) v) (infixed op x b)
of_infix LogicalOr x v b h = either false (is_zero x) (truth_of b) (truth true) (of_truth v b h) refl
of_infix LogicalAnd x v b h = either false (is_zero x) (truth false) (truth_of b) refl (of_truth v b h)
of_infix Or x v b h = in_common (bitwise bit_or) (of_bitwise bit_or) x v b h
of_infix Xor x v b h = in_common (bitwise bit_xor) (of_bitwise bit_xor) x v b h
of_infix And x v b h = in_common (bitwise bit_and) (of_bitwise bit_and) x v b h
of_infix Equal x v b h = tested _ v b h
of_infix Unequal x v b h = tested _ v b h
of_infix Less x v b h = tested _ v b h
of_infix Greater x v b h = tested _ v b h
of_infix AtMost x v b h = tested _ v b h
of_infix AtLeast x v b h = tested _ v b h
of_infix ShiftLeft x v b h = in_left left_shift_of (λ a c. of_shift (is_unsigned a) (places_of c) (times_power a) (of_times a)) x v b h
of_infix ShiftRight x v b h = in_left right_shift_of (λ a c. of_shift (is_unsigned a) (places_of c) (over_power a) (of_over a)) x v b h
of_infix Add x v b h = in_common sum_of of_sum x v b h
of_infix Subtract x v b h = in_common difference_of of_difference x v b h
of_infix Multiply x v b h = in_common product_of of_product x v b h
of_infix Divide x v b h = in_common quotient_of of_quotient x v b h
of_infix Remain x v b h = in_common remainder_of of_remainder x v b h

of_negated : (a : Number) → OfType (is_unsigned a) (negated a)
of_negated (Signed z) = of_signed (neg_ℤ z)
of_negated (Unsigned n) = refl

of_prefix : (op : Prefix) (x : Number) → OfType (prefixed_type op (is_unsigned x)) (prefixed op x)
of_prefix Plus x = refl
of_prefix Minus x = of_negated x
of_prefix Complement x = of_of_bits (is_unsigned x) _
of_prefix Not x = refl

-- an operand in the common type of two
widened : (u v : Bool) (y : Number) → is_unsigned y ≡ u → is_unsigned (converted (u || v) y) ≡ (u || v)
widened true v y e = refl
widened false true y e = refl
widened false false y e = e

widened_right : (u v : Bool) (y : Number) → is_unsigned y ≡ v → is_unsigned (converted (u || v) y) ≡ (u || v)
widened_right true v y e = refl
widened_right false true y e = refl
widened_right false false y e = e

of_choice : (u v : Bool) (test : Bool) (a b : Computed) → OfType u a → OfType v b → OfType (u || v) ((if test then b else a) >>= λ y. Ok (converted (u || v) y))
of_choice u v true a b p q = after v (u || v) b (λ y. Ok (converted (u || v) y)) q (λ y e. widened_right u v y e)
of_choice u v false a b p q = after u (u || v) a (λ y. Ok (converted (u || v) y)) p (λ y e. widened u v y e)

of_tree : (t : Tree) → OfType (type_of t) (value_of t)
of_tree (Leaf n) = refl
of_tree (Unary op a) =
    after (type_of a) (prefixed_type op (type_of a)) (value_of a) (prefixed op) (of_tree a) (λ x e. subst (λ u. OfType (prefixed_type op u) (prefixed op x)) e (of_prefix op x))
of_tree (Binary op a b) =
    after (type_of a) (infixed_type op (type_of a) (type_of b)) (value_of a) (λ x. infixed op x (value_of b)) (of_tree a)
    (λ x e. subst (λ u. OfType (infixed_type op u (type_of b)) (infixed op x (value_of b))) e (of_infix op x (type_of b) (value_of b) (of_tree b)))
of_tree (Choice c a b) =
    after (type_of c) (type_of a || type_of b) (value_of c) (λ x. chosen (type_of a || type_of b) x (value_of a) (value_of b)) (of_tree c)
    (λ x e. of_choice (type_of a) (type_of b) (is_zero x) (value_of a) (value_of b) (of_tree a) (of_tree b))

pub has_type : (t : Tree) (n : Number) → value_of t ≡ Ok n → is_unsigned n ≡ type_of t
has_type t n e = subst (OfType (type_of t)) e (of_tree t)

pub value_fault : (t : Tree) (fault : ExprFault) → value_of t ≡ Err fault → is_value_fault fault ≡ true
value_fault t fault e = subst (OfType (type_of t)) e (of_tree t)
