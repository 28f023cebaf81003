use Rattle.std.proofs.Common.{refl, arith, ap, length, ◌∙◌}
use Rattle.gh_ast.specs.Tokens.{first_place}
use Rattle.gh_ast.specs.Plain.{star, assertion_first, no_assertions, assertion_of}
use Rattle.gh_ast.proofs.Shorter.{shorter_item}
use Rattle.gh_parse.specs.Stops.{any, IsAny}
use Rattle.gh_parse.specs.Assertions.{SpellsBraced}
use Rattle.gh_parse.proofs.Rules.{by, form, told, first, first_any, form_first, next, after, after_between, breaks_tok}
use Rattle.gh_parse.proofs.Rules.{each, of_any, ends_tok, ends_seq, ends_opt, sentences_tok}
use Rattle.gh_parse.proofs.Exits.{exit, exit_missing, along, missing, gave, refused, taken_and, missing_and}
use Rattle.gh_parse.proofs.Folds.{formula_of-emp, formula_of-cases_as, formula_of-star, formulas_before}
use Rattle.gh_parse.proofs.Turns.{chain_more, chain_last, fewer}
use Rattle.gh_parse.proofs.TestForms.{closed, make_between, part_between, exact_guard}
use Rattle.gh_parse.proofs.AssertionForms.{assertion_alone, assertion_start, items_rest, items_more, items_last}
use Rattle.gh_parse.proofs.AssertionForms.{make_assertion, part_assertion, make_items, part_items, make_choice}
use Rattle.gh_parse.proofs.AssertionForms.{part_choice, exact_assertion, ends_assertion, ends_choice, ends_braced}
use Rattle.gh_parse.proofs.AssertionForms.{exact_braced, no_item, in_bracketed, chosen, bracketed, shorter_choosing}
use Rattle.gh_parse.proofs.AssertionForms.{shorter_braced, empty_item}
use Rattle.gh_parse.proofs.cursor.Parser.+assertion.Goals as goal

pub assertion-returns-in_default : goal.assertion-returns-in_default
assertion-returns-in_default t c =
    assertion_alone c.in_ok-first.ensures c.in_default.ensures.taken c.in_default.ensures.stays

pub assertion-members-init : goal.assertion-members-init
assertion-members-init t c = record {
  goes = assertion_start _ _ _ c.in_ok-first.ensures c.in-Some.ensures.taken c.new-members.ensures.items
      c.in_ok-push.ensures.items;
  shorter = fewer _ _ _ (shorter_item c.in_ok-first.ensures) c.in-Some.ensures.taken;
}

pub assertion-returns-in_err-item : goal.assertion-returns-in_err-item
assertion-returns-in_err-item t c =
    exit _ _ _ (λ s. c.members.invariant.goes.back _ (form make_items part_items (first (ends_opt (λ p. refl)) s)))
    c.in_err-item.ensures c.from_residual-in_err-item.ensures.1

pub assertion-members-smaller : goal.assertion-members-smaller
assertion-members-smaller t c = fewer _ _ _ (shorter_item c.in_ok-item.ensures) c.in-Some-take_sign.ensures.taken

pub assertion-members-preserved : goal.assertion-members-preserved
assertion-members-preserved t c =
    let step = fewer _ _ _ (shorter_item c.in_ok-item.ensures) c.in-Some-take_sign.ensures.taken in
    record {
      goes =
          chain_more (λ d. assertion_first (assertion_of d)) star _ _ _ c.members.invariant.goes
          c.in_ok-push-2.ensures.items
          (items_more c.in_ok-item.ensures c.in-Some-take_sign.ensures.taken)
          (items_rest c.in_ok-item.ensures c.in-Some-take_sign.ensures.taken);
      shorter = omega (arith, step, c.members.invariant.shorter);
    }

pub assertion-returns-in_default-take_sign : goal.assertion-returns-in_default-take_sign
assertion-returns-in_default-take_sign t c =
    rw (formula_of-star c.push-in-members.new.self, ← formulas_before c.push-in-members.new.self.items)
    (
    chain_last (λ d. assertion_first (assertion_of d)) star _ _ _ no_assertions _ c.members.invariant.goes
    c.in_ok-push-2.ensures.items
    (items_last c.in_ok-item.ensures c.in_default-take_sign.ensures.taken c.in_default-take_sign.ensures.stays)
    )

pub cases-returns-in_err-test : goal.cases-returns-in_err-test
cases-returns-in_err-test t c =
    exit _ _ _ (λ s. by make_choice (told _ _ _ c.in_ok-expect_key.ensures part_choice)
    (after _ c.in_ok-expect_key.ensures (first ends_choice s))) c.in_err-test.ensures
    c.from_residual-in_err-test.ensures.1

pub cases-braced-requires : goal.cases-braced-requires
cases-braced-requires t c =
    let e = ap length c.in_ok-expect_key.ensures in
    let h = shorter_choosing _ _ _ c.in_ok-test.ensures in
    (omega (arith, e, h), tt)

pub cases-returns-in_err-test-2 : goal.cases-returns-in_err-test-2
cases-returns-in_err-test-2 t c =
    exit _ _ _
    (λ s. by make_choice (told _ _ _ c.in_ok-expect_key.ensures part_choice)
    (after _ c.in_ok-expect_key.ensures
    (next exact_guard (any c.in_ok-test.ensures) (first_any (sentences_tok first_place (ends_braced _)) s))))
    (refused _ _ _ _ (λ b. assertion_of b.value) _ c.in_err-test-2.ensures.second c.braced.ensures)
    c.from_residual-in_err-test-2.ensures.1

pub cases-returns-in_err-test-3 : goal.cases-returns-in_err-test-3
cases-returns-in_err-test-3 t c =
    let yes =
    gave IsAny SpellsBraced _ _ (λ b. assertion_of b.value) _ c.in_ok-test-2.ensures.second c.braced.ensures in
    exit_missing _ _ _ _
    (λ n. by make_choice (told _ _ _ c.in_ok-expect_key.ensures part_choice)
    (after _ c.in_ok-expect_key.ensures
    (next exact_guard (any c.in_ok-test.ensures)
    (form_first make_between part_between
    (after_between (each exact_assertion) (part_between _ _ (any yes)) (breaks_tok first_place (ends_braced _) n))))))
    (missing_and _ _ _ _ _ _ c.in_err-test-3.ensures c.expect_key-2.ensures) c.from_residual-in_err-test-3.ensures.1

pub cases-braced-requires-2 : goal.cases-braced-requires-2
cases-braced-requires-2 t c =
    let yes =
    gave IsAny SpellsBraced _ _ (λ b. assertion_of b.value) _ c.in_ok-test-2.ensures.second c.braced.ensures in
    let word = taken_and _ _ _ _ _ _ c.in_ok-test-3.ensures c.expect_key-2.ensures in
    let e = ap length c.in_ok-expect_key.ensures in
    let h = shorter_choosing _ _ _ c.in_ok-test.ensures in
    let i = shorter_braced _ _ _ yes in
    let f = ap length word.2 in
    (omega (arith, e, h, i, f), tt)

pub cases-returns-in_err-test-4 : goal.cases-returns-in_err-test-4
cases-returns-in_err-test-4 t c =
    let yes =
    gave IsAny SpellsBraced _ _ (λ b. assertion_of b.value) _ c.in_ok-test-2.ensures.second c.braced.ensures in
    let word = taken_and _ _ _ _ _ _ c.in_ok-test-3.ensures c.expect_key-2.ensures in
    exit _ _ _
    (λ s. by make_choice (told _ _ _ c.in_ok-expect_key.ensures part_choice)
    (after _ c.in_ok-expect_key.ensures
    (next exact_guard (any c.in_ok-test.ensures) (next exact_braced (any yes) (after _ word.2 (of_any s))))))
    (refused _ _ _ _ (λ b. assertion_of b.value) _ c.in_err-test-4.ensures.second c.braced-2.ensures)
    c.from_residual-in_err-test-4.ensures.1

pub cases-returns : goal.cases-returns
cases-returns t c =
    let yes =
    gave IsAny SpellsBraced _ _ (λ b. assertion_of b.value) _ c.in_ok-test-2.ensures.second c.braced.ensures in
    let word = taken_and _ _ _ _ _ _ c.in_ok-test-3.ensures c.expect_key-2.ensures in
    let no =
    gave IsAny SpellsBraced _ _ (λ b. assertion_of b.value) _ c.in_ok-test-4.ensures.second c.braced-2.ensures in
    let e = c.in_ok-test-4.ensures.first ∙ word.0 in
    rw (formula_of-cases_as c.in_ok-test-4.no (ap (λ p. p.0) e ∙ c.in_ok-test-2.ensures.first) (ap (λ p. p.1) e))
    (chosen c.in_ok-expect_key.ensures c.in_ok-test.ensures yes word.2 no)

pub braced-returns-in_err-inner : goal.braced-returns-in_err-inner
braced-returns-in_err-inner t c = exit _ _ _ (λ s. s) c.in_err-inner.ensures c.from_residual.ensures.1

pub braced-returns : goal.braced-returns
braced-returns t c = rw c.in_ok-new.ensures.ok c.in_ok-inner.ensures

pub enclosed_assertion-returns-in_err-expect_sign : goal.enclosed_assertion-returns-in_err-expect_sign
enclosed_assertion-returns-in_err-expect_sign t c =
    exit _ _ _ (λ s. form make_between part_between
    (first (ends_seq ends_assertion (ends_tok first_place (c.requires.ends first_place))) s))
    (missing _ _ _ _ _ first_place (c.requires.begins first_place) c.in_err-expect_sign.ensures)
    c.from_residual.ensures.1

pub enclosed_assertion-returns-in_err-inner : goal.enclosed_assertion-returns-in_err-inner
enclosed_assertion-returns-in_err-inner t c =
    exit _ _ _ (λ s. form make_between part_between
    (after _ c.in_ok-expect_sign.ensures (first (ends_tok first_place (c.requires.ends first_place)) s)))
    c.in_err-inner.ensures
    c.from_residual-in_err-inner.ensures.1

pub enclosed_assertion-returns : goal.enclosed_assertion-returns
enclosed_assertion-returns t c =
    rw c.and.ensures (closed IsAny _ _ _ _ _ c.in_ok-expect_sign.ensures (each exact_assertion)
    (c.requires.ends first_place) c.in_ok-inner.ensures c.expect_sign-2.ensures)

pub item-returns-in_default : goal.item-returns-in_default
item-returns-in_default t c =
    along _ _ (λ x h. bracketed x _ h)
    (λ s. in_bracketed c.ahead.result c.ahead.ensures c.in_default.not-Name c.in_default.not-Key (of_any s))
    c.enclosed_assertion.ensures

pub item_by_word-returns-in_ok-expect_key-in-Emp : goal.item_by_word-returns-in_ok-expect_key-in-Emp
item_by_word-returns-in_ok-expect_key-in-Emp t c = rw formula_of-emp (empty_item c.in_ok-expect_key-in-Emp.ensures)

pub assertion-returns-in_err-first : goal.assertion-returns-in_err-first
assertion-returns-in_err-first t c =
    exit _ _ _ (λ s. form make_assertion part_assertion (first (ends_opt (λ p. refl)) s)) c.in_err-first.ensures
    c.from_residual.ensures.1

pub item_by_word-returns-in_default : goal.item_by_word-returns-in_default
item_by_word-returns-in_default t c =
    no_item c.requires c.in_default.not-Emp c.in_default.not-Acc c.in_default.not-Lseg c.in_default.not-If
    c.in_default.not-Null
