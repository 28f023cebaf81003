use Rattle.std.proofs.Common.{◌≡◌, ◌∙◌, ◌+◌, ◌≤◌, ap, sym, inl, inr, arith, length, map, Some, None, subst}
use Rattle.std.specs.Prelude.{slice_get}
use Rattle.std.proofs.lemmas.List.{take_all}
use Rattle.gh_ast.specs.Plain.{program_of}
use Rattle.gh_ast.specs.Rules.{IsTyped}
use Rattle.gh_path.specs.Admitted.{most_terms, most_versions}
use Rattle.gh_path.specs.Answers.{IsNumbered}
use Rattle.gh_path.specs.Conditions.{conditions}
use Rattle.gh_path.specs.Kept.{condition_of, IsScoped}
use Rattle.gh_path.proofs.GivenLemmas.{lent_one, lent_on, lent_none}
use Rattle.gh_symb.specs.Limits.{HasTerms, Passes}
use Rattle.gh_symb.specs.Met.{IsMet}
use Rattle.gh_symb.specs.Steps.{IsCount}
use Rattle.gh_symb.proofs.AdmitLemmas.{ManyTerms, ManyVersions, its_count, one_more, met_more, first_passed, none_has}
use Rattle.gh_symb.proofs.AdmitLemmas.{few_terms, many_terms, number_at, numbered_is_scoped, counts_more}
use Rattle.gh_symb.proofs.admit.count_all.Goals as goal
use Rattle.gh_symb.proofs.admit.count_all.Goals.{After-condition-condition}

pub loop-place-init : goal.loop-place-init
loop-place-init c = record {
  before = c.requires.before;
  few = λ j d p less at of holds. omega (arith, less);
  late = λ j d p less at of holds. omega (arith, less);
  counts = λ none. c.requires.none;
}

pub unreachable-requires : goal.unreachable-requires
unreachable-requires c =
    let P = program_of c.args.typed.now in
    let k = c.loop-place.place in
    lent_none P c.loop-place.walk c.advance.new.self k c.advance.result c.in_ok-more.more c.in_ok-more.was
    c.if-not-more.true c.loop-place.invariant.before (omega (arith, c.requires.number, c.loop-place-test.true))
    c.advance.ensures.next

-- the condition that the walk lends is the one at its place
lent : (c : After-condition-condition)
    → IsNumbered (program_of c.args.typed.now) (c.loop-place.place + 1) (Some c.condition-condition.result.now)
lent c =
    lent_one (program_of c.args.typed.now) c.loop-place.walk c.advance.new.self c.loop-place.place c.advance.result
    c.in_ok-more.more
    c.condition-condition.result.now c.in_ok-more.was c.if-not-more.false c.condition-condition.ensures
    c.loop-place.invariant.before
    c.advance.ensures.next

-- it is a condition of the program, with its procedure
scoped : (c : After-condition-condition) → IsScoped (program_of c.args.typed.now) c.condition-condition.result.now
scoped c =
    let P = program_of c.args.typed.now in
    let typed : IsTyped P =
    subst (λ Q. IsTyped (program_of Q)) c.program-program.ensures.same c.program-program.ensures.typed in
    numbered_is_scoped P (c.loop-place.place + 1) c.condition-condition.result.now typed (lent c)

pub counted-requires : goal.counted-requires
counted-requires c = scoped c

pub limit_of-passed-requires : goal.limit_of-passed-requires
limit_of-passed-requires c = scoped (goal.at.limit_of-passed-requires c).After-condition-condition

pub returns-in-Some-clause-refused : goal.returns-in-Some-clause-refused
returns-in-Some-clause-refused c =
    let P = program_of c.args.typed.now in
    let k = c.loop-place.place in
    let r = c.condition-condition.result.now in
    let at = (goal.at.returns-in-Some-clause-refused c).After-condition-condition in
    let is = scoped at in
    let proc = is.0 in
    let d = condition_of r in
    let passes : Passes P proc d c.limit_of-passed.result =
    c.limit_of-passed.ensures proc is.1 (c.in_ok-found.ensures proc is.1) in
    let many = many_terms P proc d c.limit_of-passed.result c.in-Some.limit passes c.in-Some.ensures in
    inl (first_passed P (ManyTerms P) (k + 1) 6 (most_terms + 1) c.in-Some.limit
    (record {
      place = k;
      condition = d;
      procedure = proc;
      within = omega arith;
      at = number_at P k r (lent at);
      of = is.1;
      holds = many.0;
      limit = many.1;
      earlier = c.loop-place.invariant.few;
    }))

pub loop-place-preserved : goal.loop-place-preserved
loop-place-preserved c =
    let P = program_of c.args.typed.now in
    let k = c.loop-place.place in
    let s = c.loop-place.walk in
    let t = c.advance.new.self in
    let r = c.condition-condition.result.now in
    let at = (goal.at.loop-place-preserved c).After-condition-condition in
    let is = scoped at in
    let proc = is.0 in
    let d = condition_of r in
    let here : slice_get (conditions P) k ≡ Some d = number_at P k r (lent at) in
    let counted : IsCount P proc d c.in_ok-found.found = c.in_ok-found.ensures proc is.1 in
    let passed = c.limit_of-passed.result in
    let passes : Passes P proc d passed = c.limit_of-passed.ensures proc is.1 counted in
    let few = few_terms P proc d passed passes c.in_default.ensures in
    record {
      before = lent_on P s t k c.advance.result c.in_ok-more.more c.in_ok-more.was c.if-not-more.false
          c.loop-place.invariant.before c.advance.ensures.next;
      few = one_more P (HasTerms P) k d proc here is.1 c.loop-place.invariant.few few;
      late = rw c.earlier-late.ensures
          (met_more P k d proc c.loop-place.late passed here is.1 passes few c.loop-place.invariant.late);
      counts = λ none. counts_more P k d proc c.loop-place.late passed c.loop-place.counts.items c.add.new.counts.items
          c.count.result here is.1 passes (λ keeps. c.count.ensures.kept P proc d counted keeps) c.in_ok-add.ensures
          c.loop-place.invariant.counts (sym c.earlier-late.ensures ∙ none);
    }

pub returns-in-Some-late-clause-refused : goal.returns-in-Some-late-clause-refused
returns-in-Some-late-clause-refused c =
    let P = program_of c.args.typed.now in
    let k = c.loop-place.place in
    let all : length (conditions P) ≤ k = omega (arith, c.requires.number, c.loop-place-test.false) in
    let met : IsMet P k (Some c.in-Some-late.limit) = rw c.in-Some-late.is at c.loop-place.invariant.late in
    inr (
      none_has P (ManyTerms P) k all c.loop-place.invariant.few,
      first_passed P (ManyVersions P) k 7 (most_versions + 1) c.in-Some-late.limit met,
    )

pub returns-in-None-clause-terms : goal.returns-in-None-clause-terms
returns-in-None-clause-terms c =
    let P = program_of c.args.typed.now in
    let k = c.loop-place.place in
    let all : length (conditions P) ≤ k = omega (arith, c.requires.number, c.loop-place-test.false) in
    none_has P (ManyTerms P) k all c.loop-place.invariant.few

pub returns-in-None-clause-versions : goal.returns-in-None-clause-versions
returns-in-None-clause-versions c =
    let P = program_of c.args.typed.now in
    let k = c.loop-place.place in
    let all : length (conditions P) ≤ k = omega (arith, c.requires.number, c.loop-place-test.false) in
    let met : IsMet P k None = rw c.in-None.is at c.loop-place.invariant.late in
    none_has P (ManyVersions P) k all met

pub returns-in-None-clause-counts : goal.returns-in-None-clause-counts
returns-in-None-clause-counts c =
    let P = program_of c.args.typed.now in
    let k = c.loop-place.place in
    let all : length (conditions P) ≤ k = omega (arith, c.requires.number, c.loop-place-test.false) in
    c.loop-place.invariant.counts c.in-None.is ∙ ap (map (its_count P)) (take_all k (conditions P) all)
