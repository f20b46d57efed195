use Rattle.std.proofs.Common.{length, ap, arith}
use Rattle.string_sections.proofs.PoolLemmas.{strings_count}
use Rattle.string_sections.proofs.pool.StrPool.count.Goals as goal

pub returns : goal.returns
returns c =
    let inside = c.self.inside in
    omega (arith, c.len.ensures, inside.lengths.ok.0, strings_count inside.lengths.items inside.bytes.items, ap length c.self.view_is)
