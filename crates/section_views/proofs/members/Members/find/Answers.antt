use Rattle.std.proofs.Common.{◌≡◌, ◌-◌, ◌<◌, ℕ, List, true, false, refl, sym, ap, ◌∙◌, arith}
use Rattle.std.specs.Option.{is_some}
use Rattle.section_views.specs.declared.fault.ElfFault.TheVariants.{Twice}
use Rattle.section_views.specs.SectionTable.{header_at, section_count}
use Rattle.section_views.specs.Family.{is_second}
use Rattle.section_views.specs.Faults.{second_fault}
use Rattle.section_views.proofs.Finding.{find_none_more}
use Rattle.section_views.proofs.Firsts.{at_first-hit, find-whole, range_fault-inside}
use Rattle.section_views.proofs.Keeping.{stands, stands-read, stands-contents, is_second-at, is_second-other, is_second-first, AreFirst-some, AreFirst-passed, AreFirst-put, AreFirst-whole}
use Rattle.section_views.proofs.members.Members.find.Goals as goal

pub loop-n-preserved-in_default : goal.loop-n-preserved-in_default
loop-n-preserved-in_default c =
    let file = c.args.table.now in
    let n = c.loop-n.n in
    let other : (k : ℕ) → k < 7 → stands file n k ≡ false = λ k within. stands-read file c.args.names.now n k c.header.result false c.requires.names c.header.ensures (c.in_default.ensures k within) in
    record {
      none = find_none_more (header_at file) (is_second file) n (omega arith) c.loop-n.invariant.none (is_second-other file n other);
      within = omega arith;
      first = AreFirst-passed file n c.loop-n.members (omega arith) c.loop-n.invariant.first other;
    }

pub returns-then-is_some-clause-fault : goal.returns-then-is_some-clause-fault
unfolding second_fault
returns-then-is_some-clause-fault c =
    let file = c.args.table.now in
    let n = c.loop-n.n in
    let p = c.in-Some.place in
    let holds = stands-read file c.args.names.now n p c.header.result true c.requires.names c.header.ensures c.in-Some.ensures.1 in
    let earlier = sym (AreFirst-some file n c.loop-n.members p c.loop-n.invariant.first c.in-Some.ensures.0) ∙ ap is_some (sym c.get.ensures) ∙ sym c.if-is_some.ensures in
    sym (at_first-hit file (is_second file) (λ k. Twice k) n (omega arith) (omega arith) c.loop-n.invariant.none (is_second-at file n p c.in-Some.ensures.0 holds earlier))

pub contents-bytes-requires-clause-inside : goal.contents-bytes-requires-clause-inside
contents-bytes-requires-clause-inside c =
    let file = c.args.table.now in
    let n = c.loop-n.n in
    let holds = stands-read file c.args.names.now n c.in-Some.place c.header.result true c.requires.names c.header.ensures c.in-Some.ensures.1 in
    range_fault-inside file n c.requires.ranges (omega arith) (omega arith) (stands-contents file n c.in-Some.place holds)

pub loop-n-preserved : goal.loop-n-preserved
loop-n-preserved c =
    let file = c.args.table.now in
    let n = c.loop-n.n in
    let p = c.in-Some.place in
    let holds = stands-read file c.args.names.now n p c.header.result true c.requires.names c.header.ensures c.in-Some.ensures.1 in
    let free = ap is_some (sym c.get.ensures) ∙ sym c.if-is_some.ensures in
    record {
      none = find_none_more (header_at file) (is_second file) n (omega arith) c.loop-n.invariant.none (is_second-first file n c.loop-n.members p c.loop-n.invariant.first c.in-Some.ensures.0 holds free);
      within = omega arith;
      first = AreFirst-put file n c.loop-n.members c.put.new.self p (record { number = n; bytes = c.contents-bytes.result }) (omega arith) c.loop-n.invariant.first c.in-Some.ensures.0 holds free c.put.ensures.here c.put.ensures.others (ap (λ (bytes : List ℕ). (n, bytes)) c.contents-bytes.ensures);
    }

pub returns-clause-fault : goal.returns-clause-fault
unfolding second_fault
returns-clause-fault c =
    let file = c.args.table.now in
    let last : c.loop-n.n - 1 ≡ section_count file - 1 = omega arith in
    rw (find-whole file (is_second file) c.loop-n.n last c.loop-n.invariant.none) refl

pub returns-clause-members : goal.returns-clause-members
returns-clause-members c =
    let file = c.args.table.now in
    let last : c.loop-n.n - 1 ≡ section_count file - 1 = omega arith in
    AreFirst-whole file c.loop-n.n c.loop-n.members last c.loop-n.invariant.first
