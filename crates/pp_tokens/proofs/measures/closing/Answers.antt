use Rattle.std.proofs.Common.{◌≡◌, ◌+◌, length-drop, arith, subst, ap, sym, List, length}
use Rattle.std.specs.Option.{option_map}
use Rattle.pp_tokens.specs.Cleaning.{Char, bytes_of}
use Rattle.pp_tokens.specs.Scan.{closing}
use Rattle.pp_tokens.proofs.MeasureLemmas.{closing-counted, element-le}
use Rattle.pp_tokens.proofs.measures.closing.Goals as goal

pub loop-size-preserved : goal.loop-size-preserved
loop-size-preserved c = record {
  so_far = subst (λ (cs : List Char). option_map (λ n. c.loop-size.length + c.element-size.result + n) (closing c.args.quote (bytes_of cs)) ≡ closing c.args.quote (bytes_of c.args.chars.now))
      (sym c.skip.ensures)
      (closing-counted c.args.quote c.loop-size.length c.element-size.result c.loop-size.ahead _ c.element-size.ensures c.if-size-eq0.false c.loop-size.invariant.so_far);
  bound = omega (arith, ap length c.skip.ensures, length-drop c.element-size.result c.loop-size.ahead, element-le c.args.quote c.loop-size.ahead);
}
