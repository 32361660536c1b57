use Rattle.std.proofs.Common.{rules, ◌≡◌, ◌∙◌, ◌∷◌, length, ap, arith}
use Rattle.std.specs.Prelude.{slice_get}
use Rattle.rv_base.specs.Lines.{lines}
use Rattle.rv_asm.specs.AllFaults.{faults_of}
use Rattle.rv_diagnosis.proofs.Merging.{ordered, begun, merged_more, all_merged}
use Rattle.rv_diagnosis.proofs.faults.diagnose.Goals as goal

pub loop-text-init : goal.loop-text-init
loop-text-init c =
    let texts = lines c.args.source.now in
    record {
      can_next = tt;
      is_finite = tt;
      merged =
          rw (c.into_iter-text-iterator.ensures.into_iter_gives, c.cut_lines-text-items.ensures.cut, c.new-out.ensures.items)
          (begun texts (faults_of texts) (ordered texts));
      counted = search rules;
    }

pub loop-text-preserved : goal.loop-text-preserved
loop-text-preserved c =
    let texts = lines c.args.source.now in
    let rest = c.loop-text.text-iterator in
    let text = c.in-Some.text.now in
    let after = c.next.new.self in
    let cut : rest ≡ text ∷ after = c.in-Some.ensures.steps in
    record {
      can_next = tt;
      is_finite = tt;
      merged = merged_more (ordered texts).fault texts rest c.loop-text.line (faults_of texts) c.loop-text.out.items
          c.loop-text.invariant.merged text after cut _
          (rw c.in_ok-review.ensures.faults at c.in_ok-diagnose_line.ensures);
      counted = omega (arith, c.loop-text.invariant.counted, ap length cut);
    }

pub returns-clause-all : goal.returns-clause-all
returns-clause-all c =
    let texts = lines c.args.source.now in
    all_merged (ordered texts).fault texts c.loop-text.text-iterator c.loop-text.line (faults_of texts)
    c.loop-text.out.items c.loop-text.invariant.merged c.in-None.ensures.steps.0

pub returns-clause-places : goal.returns-clause-places
returns-clause-places c = c.loop-text.invariant.merged.places

pub returns-clause-first : goal.returns-clause-first
returns-clause-first c =
    let texts = lines c.args.source.now in
    ap (λ faults. slice_get faults 0) (all_merged (ordered texts).fault texts c.loop-text.text-iterator
    c.loop-text.line (faults_of texts) c.loop-text.out.items c.loop-text.invariant.merged c.in-None.ensures.steps.0)
    ∙ (rw c.in_ok-review.ensures.faults at c.in_ok-review.ensures.first)
