use Rattle.std.proofs.Common.{refl, arith}
use Rattle.gh_ast.specs.Tokens.{first_place}
use Rattle.gh_ast.specs.Plain.{conjunction, disjunction, cond_first, no_conds, cond_of}
use Rattle.gh_ast.proofs.Shorter.{shorter_literal, shorter_conjunction}
use Rattle.gh_parse.specs.Stops.{EndsHere}
use Rattle.gh_parse.proofs.Rules.{by, form, told, first, after, each, ends_tok, ends_seq, ends_opt}
use Rattle.gh_parse.proofs.Exits.{exit, along, missing}
use Rattle.gh_parse.proofs.Folds.{test_of-not, test_of-and, test_of-or, tests_before}
use Rattle.gh_parse.proofs.Turns.{chain_more, chain_last, fewer}
use Rattle.gh_parse.proofs.TestForms.{closed, make_between, part_between, make_negated, part_negated, make_bracketed}
use Rattle.gh_parse.proofs.TestForms.{part_bracketed, make_conj, part_conj, make_lits, part_lits, make_test, part_test}
use Rattle.gh_parse.proofs.TestForms.{make_conjs, part_conjs, exact_test, ends_test, denied, bare, conjunction_alone}
use Rattle.gh_parse.proofs.TestForms.{conjunction_start, literals_rest, literals_more, literals_last, test_alone}
use Rattle.gh_parse.proofs.TestForms.{test_start, conjunctions_rest, conjunctions_more, conjunctions_last}
use Rattle.gh_parse.proofs.cursor.Parser.+condition.Goals as goal

pub conjunction-returns-in_default : goal.conjunction-returns-in_default
conjunction-returns-in_default t c =
    conjunction_alone c.in_ok-first.ensures c.in_default.ensures.taken c.in_default.ensures.stays

pub conjunction-members-init : goal.conjunction-members-init
conjunction-members-init t c = record {
  goes = conjunction_start _ _ _ c.in_ok-first.ensures c.in-Some.ensures.taken c.new-members.ensures.items
      c.in_ok-push.ensures.items;
  shorter = fewer _ _ _ (shorter_literal c.in_ok-first.ensures) c.in-Some.ensures.taken;
}

pub conjunction-returns-in_err-literal : goal.conjunction-returns-in_err-literal
conjunction-returns-in_err-literal t c =
    exit _ _ _ (λ s. c.members.invariant.goes.back _ (form make_lits part_lits (first (ends_opt (λ p. refl)) s)))
    c.in_err-literal.ensures c.from_residual-in_err-literal.ensures.1

pub conjunction-members-smaller : goal.conjunction-members-smaller
conjunction-members-smaller t c =
    fewer _ _ _ (shorter_literal c.in_ok-literal.ensures) c.in-Some-take_sign.ensures.taken

pub conjunction-members-preserved : goal.conjunction-members-preserved
conjunction-members-preserved t c =
    let step = fewer _ _ _ (shorter_literal c.in_ok-literal.ensures) c.in-Some-take_sign.ensures.taken in
    record {
      goes =
          chain_more (λ d. cond_first (cond_of d)) conjunction _ _ _ c.members.invariant.goes
          c.in_ok-push-2.ensures.items
          (literals_more c.in_ok-literal.ensures c.in-Some-take_sign.ensures.taken)
          (literals_rest c.in_ok-literal.ensures c.in-Some-take_sign.ensures.taken);
      shorter = omega (arith, step, c.members.invariant.shorter);
    }

pub conjunction-returns-in_default-take_sign : goal.conjunction-returns-in_default-take_sign
conjunction-returns-in_default-take_sign t c =
    rw (test_of-and c.push-in-members.new.self, ← tests_before c.push-in-members.new.self.items)
    (
    chain_last (λ d. cond_first (cond_of d)) conjunction _ _ _ no_conds _ c.members.invariant.goes
    c.in_ok-push-2.ensures.items
    (literals_last c.in_ok-literal.ensures c.in_default-take_sign.ensures.taken c.in_default-take_sign.ensures.stays)
    )

pub test-returns-in_default : goal.test-returns-in_default
test-returns-in_default t c = test_alone c.in_ok-first.ensures c.in_default.ensures.taken c.in_default.ensures.stays

pub test-members-init : goal.test-members-init
test-members-init t c = record {
  goes = test_start _ _ _ c.in_ok-first.ensures c.in-Some.ensures.taken c.new-members.ensures.items
      c.in_ok-push.ensures.items;
  shorter = fewer _ _ _ (shorter_conjunction c.in_ok-first.ensures) c.in-Some.ensures.taken;
}

pub test-returns-in_err-conjunction : goal.test-returns-in_err-conjunction
test-returns-in_err-conjunction t c =
    exit _ _ _ (λ s. c.members.invariant.goes.back _ (form make_conjs part_conjs (first (ends_opt (λ p. refl)) s)))
    c.in_err-conjunction.ensures c.from_residual-in_err-conjunction.ensures.1

pub test-members-smaller : goal.test-members-smaller
test-members-smaller t c =
    fewer _ _ _ (shorter_conjunction c.in_ok-conjunction.ensures) c.in-Some-take_sign.ensures.taken

pub test-members-preserved : goal.test-members-preserved
test-members-preserved t c =
    let step = fewer _ _ _ (shorter_conjunction c.in_ok-conjunction.ensures) c.in-Some-take_sign.ensures.taken in
    record {
      goes =
          chain_more (λ d. cond_first (cond_of d)) disjunction _ _ _ c.members.invariant.goes
          c.in_ok-push-2.ensures.items
          (conjunctions_more c.in_ok-conjunction.ensures c.in-Some-take_sign.ensures.taken)
          (conjunctions_rest c.in_ok-conjunction.ensures c.in-Some-take_sign.ensures.taken);
      shorter = omega (arith, step, c.members.invariant.shorter);
    }

pub test-returns-in_default-take_sign : goal.test-returns-in_default-take_sign
test-returns-in_default-take_sign t c =
    rw (test_of-or c.push-in-members.new.self, ← tests_before c.push-in-members.new.self.items)
    (
    chain_last (λ d. cond_first (cond_of d)) disjunction _ _ _ no_conds _ c.members.invariant.goes
    c.in_ok-push-2.ensures.items
    (conjunctions_last c.in_ok-conjunction.ensures c.in_default-take_sign.ensures.taken
    c.in_default-take_sign.ensures.stays)
    )

pub conjunction-returns-in_err-first : goal.conjunction-returns-in_err-first
conjunction-returns-in_err-first t c =
    exit _ _ _ (λ s. form make_conj part_conj (first (ends_opt (λ p. refl)) s)) c.in_err-first.ensures
    c.from_residual.ensures.1

pub test-returns-in_err-first : goal.test-returns-in_err-first
test-returns-in_err-first t c =
    exit _ _ _ (λ s. form make_test part_test (first (ends_opt (λ p. refl)) s)) c.in_err-first.ensures
    c.from_residual.ensures.1

pub enclosed_test-returns-in_err-expect_sign : goal.enclosed_test-returns-in_err-expect_sign
enclosed_test-returns-in_err-expect_sign t c =
    exit _ _ _ (λ s. form make_between part_between (first (ends_seq (ends_test _) (ends_tok first_place refl)) s))
    (missing _ _ _ _ _ first_place refl c.in_err-expect_sign.ensures) c.from_residual.ensures.1

pub enclosed_test-returns-in_err-test : goal.enclosed_test-returns-in_err-test
enclosed_test-returns-in_err-test t c =
    exit _ _ _ (λ s. form make_between part_between
    (after _ c.in_ok-expect_sign.ensures (first (ends_tok first_place refl) s))) c.in_err-test.ensures
    c.from_residual-in_err-test.ensures.1

pub enclosed_test-returns : goal.enclosed_test-returns
enclosed_test-returns t c =
    rw c.and.ensures (closed EndsHere _ _ _ _ _ c.in_ok-expect_sign.ensures (each exact_test) refl c.in_ok-test.ensures
    c.expect_sign-2.ensures)

pub literal-returns-in_err-inner : goal.literal-returns-in_err-inner
literal-returns-in_err-inner t c =
    exit _ _ _ (λ s. by make_negated (told _ _ _ c.in-Some.ensures.taken part_negated)
    (after _ c.in-Some.ensures.taken s)) c.in_err-inner.ensures c.from_residual.ensures.1

pub literal-returns : goal.literal-returns
literal-returns t c =
    rw (test_of-not c.in_ok-new.field-0, c.in_ok-new.ensures.ok) (denied c.in-Some.ensures.taken c.in_ok-inner.ensures)

pub literal-returns-then-is_sign : goal.literal-returns-then-is_sign
literal-returns-then-is_sign t c =
    along _ _ (λ x h. bare x _ h) (λ s. by make_bracketed (told _ _ _ c.if-is_sign.ensures.2 part_bracketed) s)
    c.enclosed_test.ensures
