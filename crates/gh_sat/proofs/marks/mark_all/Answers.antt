use Rattle.std.proofs.Common.{◌≡◌, List, arith, sym, subst, get_or, take, take_all, inl, inr}
use Rattle.std.proofs.lemmas.List.{take_more}
use Rattle.std.proofs.lemmas.List.Elements.{All-push}
use Rattle.gh_base.specs.declared.atom.Lit.{Lit}
use Rattle.gh_sat.specs.Learn.{marks_of, HasMark, AllMarked, MarksMore}
use Rattle.gh_sat.proofs.StatusLemmas.{nothing, in_front}
use Rattle.gh_sat.proofs.MarkLemmas.{more_more, more_whole, all_marked_more, has_more}
use Rattle.gh_sat.proofs.marks.mark_all.Goals as goal

pub mark-requires-clause-stands : goal.mark-requires-clause-stands
mark-requires-clause-stands c =
    let i = c.loop-lit.invariant in
    elim (c.requires.stands c.loop-lit.lit-index nothing c.loop-lit-test.true) [
      | inl h ↦
          inl (has_more c.args.trail.now.steps (marks_of c.args.marks.now) (marks_of c.loop-lit.marks)
          (get_or c.args.clause.now c.loop-lit.lit-index nothing) i.more.keeps h)
      | inr s ↦ inr (s.0, s.1, omega (arith, s.2, i.more.end), s.3, s.4)
    ]

pub returns-in_err-mark-clause-more : goal.returns-in_err-mark-clause-more
returns-in_err-mark-clause-more c =
    let i = c.loop-lit.invariant in
    let front = take c.loop-lit.lit-index c.args.clause.now in
    let l = get_or c.args.clause.now c.loop-lit.lit-index nothing in
    let both = more_more c.args.trail.now.steps front l (marks_of c.args.marks.now) (marks_of c.loop-lit.marks)
    (marks_of c.mark.new.marks) i.more c.mark.ensures.more in
    let longer = take_more c.args.clause.now c.loop-lit.lit-index nothing c.loop-lit-test.true in
    more_whole c.args.trail.now.steps _ c.args.clause.now (marks_of c.args.marks.now) (marks_of c.mark.new.marks)
    (in_front _ c.args.clause.now)
    (subst (λ (xs : List Lit). MarksMore c.args.trail.now.steps xs (marks_of c.args.marks.now)
    (marks_of c.mark.new.marks)) (sym longer) both)

pub loop-lit-preserved : goal.loop-lit-preserved
loop-lit-preserved c =
    let i = c.loop-lit.invariant in
    let e = c.in_ok-mark.ensures in
    let front = take c.loop-lit.lit-index c.args.clause.now in
    let l = get_or c.args.clause.now c.loop-lit.lit-index nothing in
    let m = marks_of c.mark.new.marks in
    let longer = take_more c.args.clause.now c.loop-lit.lit-index nothing c.loop-lit-test.true in
    record {
      marks = e.marks;
      all = subst (AllMarked c.args.trail.now.steps m) (sym longer)
          (All-push (λ (q : Lit). HasMark c.args.trail.now.steps m q) front l
          (all_marked_more c.args.trail.now.steps (marks_of c.loop-lit.marks) m front e.more.keeps i.all) e.is);
      more = subst (λ (xs : List Lit). MarksMore c.args.trail.now.steps xs (marks_of c.args.marks.now) m) (sym longer)
          (more_more c.args.trail.now.steps front l (marks_of c.args.marks.now) (marks_of c.loop-lit.marks) m i.more
          e.more);
    }

pub returns-clause-all : goal.returns-clause-all
returns-clause-all c =
    let whole : take c.loop-lit.lit-index c.args.clause.now ≡ c.args.clause.now =
    take_all c.loop-lit.lit-index c.args.clause.now (omega arith) in
    subst (AllMarked c.args.trail.now.steps (marks_of c.loop-lit.marks)) whole c.loop-lit.invariant.all
