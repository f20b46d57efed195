use Rattle.std.proofs.Common.{◌≡◌, ◌+◌, ℕ, length-drop, arith, subst, ap, sym, ◌∙◌, List, [], ◌∷◌, length, Some, ◌≤◌, eqb, ◌&&◌}
use Rattle.std.specs.Option.{option_map}
use Rattle.pp_tokens.specs.Cleaning.{Char, bytes_of}
use Rattle.pp_tokens.specs.Cut.{up_to_close}
use Rattle.pp_tokens.specs.Kinds.{first_is}
use Rattle.pp_tokens.specs.Scan.{first_byte}
use Rattle.pp_tokens.proofs.MeasureLemmas.{close-counted}
use Rattle.pp_tokens.proofs.measures.up_to_close.Goals as goal

some_left : (cs : List Char) (b : ℕ) → Some b ≡ first_byte cs → 1 ≤ length cs
some_left [] b is = cc
some_left (c ∷ cs) b is = omega arith

pub loop-byte-preserved : goal.loop-byte-preserved
loop-byte-preserved c =
    let is : Some c.in-Some.byte ≡ first_byte c.loop-byte.ahead = sym c.in-Some.is ∙ c.peek.ensures in
    record {
      so_far = subst (λ (cs : List Char). option_map (λ n. c.loop-byte.length + 1 + n) (up_to_close (bytes_of cs)) ≡ up_to_close (bytes_of c.args.chars.now))
          (sym c.advance.ensures)
          (close-counted c.loop-byte.length c.in-Some.byte c.loop-byte.ahead _ is (sym c.if-ends_comment.false ∙ c.ends_comment.ensures ∙ ap (λ (cs : List Char). eqb c.in-Some.byte 42 && first_is (λ b. eqb b 47) (bytes_of cs)) c.advance.ensures) c.loop-byte.invariant.so_far);
      bound = omega (arith, ap length c.advance.ensures, length-drop 1 c.loop-byte.ahead, some_left c.loop-byte.ahead c.in-Some.byte is);
    }
