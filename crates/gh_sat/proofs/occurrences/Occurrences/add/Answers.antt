use Rattle.std.proofs.Common.{◌≡◌, ◌<◌, ◌*◌, ◌∙◌, ◌++◌, ◌∷◌, [], ℕ, zero, suc, List, Result, Ok, Err, Contains, OnOk}
use Rattle.std.proofs.Common.{arith, ap, refl, sym, subst, get_or, length}
use Rattle.std.specs.Prelude.{OnErr, slice_set}
use Rattle.std.specs.declared.alloc.AllocError.{AllocError}
use Rattle.gh_base.specs.Atoms.{count_of}
use Rattle.gh_sat.specs.Watch.{ListsMore, lists_by}
use Rattle.gh_sat.proofs.ListLemmas.{lt_along}
use Rattle.gh_sat.proofs.ListsLemmas.{by_long, by_push, by_same}
use Rattle.gh_sat.proofs.occurrences.Occurrences.add.Goals as goal
use Rattle.gh_sat.proofs.occurrences.Occurrences.add.Goals.{After-push}

any_default : {X : Type 0} (xs : List X) (i : ℕ) (d e : X) → i < length xs → get_or xs i d ≡ get_or xs i e
any_default [] i d e h = absurd (omega arith)
any_default (x ∷ xs) zero d e h = refl
any_default (x ∷ xs) (suc i) d e h = any_default xs i d e (omega arith)

either : (lists : List (List ℕ)) (numbers : List ℕ) (code own k : ℕ) (old new : List ℕ)
    (r : Result (Unit {0}) AllocError)
    → own < length lists → code < length numbers → get_or numbers code 0 ≡ own → old ≡ get_or lists own old
    → OnOk r (new ≡ old ++ k ∷ []) → OnErr r (new ≡ old)
    → OnOk r (Contains (get_or (lists_by (slice_set lists own new) numbers) code []) k)
    × ListsMore (lists_by lists numbers) (lists_by (slice_set lists own new) numbers)
either lists numbers code own k old new (Ok x) h within is read ok err =
    let pushed : new ≡ get_or lists own [] ++ k ∷ [] =
    ok ∙ ap (λ o. o ++ k ∷ []) (read ∙ any_default lists own old [] h) in
    let p = by_push lists numbers code own k new h within is pushed in (p.1, p.0)
either lists numbers code own k old new (Err e) h within is read ok err =
    (tt, by_same lists numbers own new h (err ∙ read ∙ any_default lists own old [] h))

-- the lists after the number was pushed
pushed : (c : After-push) → OnOk c.push.result
    (Contains (get_or (lists_by (slice_set c.own_list.new.lists.items c.in_ok-own.own c.push.new.self)
    c.own_list.new.numbers.items) c.code.result []) c.args.number)
    × ListsMore (lists_by c.own_list.new.lists.items c.own_list.new.numbers.items)
    (lists_by (slice_set c.own_list.new.lists.items c.in_ok-own.own c.push.new.self) c.own_list.new.numbers.items)
pushed c =
    let lists = c.own_list.new.lists.items in
    let numbers = c.own_list.new.numbers.items in
    let own = c.in_ok-own.own in
    let number : get_or numbers c.code.result 0 ≡ own = c.in_ok-own.ensures.number in
    let all : length numbers ≡ 2 * count_of c.args.sizes =
    sym (by_long lists numbers) ∙ ap length c.own_list.ensures.same ∙ ap length c.self.view_is ∙ c.requires.long in
    let within : c.code.result < length numbers = lt_along refl (sym all) c.code.ensures.below in
    let low : own < length lists =
    subst (λ (n : ℕ). n < length lists) number (c.own_list.ensures.lists.within c.code.result 0 within) in
    either lists numbers c.code.result own c.args.number c.index_mut.result.now c.push.new.self c.push.result low within
    number c.index_mut.ensures.value c.push.ensures.ok c.push.ensures.err

pub returns-clause-listed : goal.returns-clause-listed
returns-clause-listed c =
    let lists = slice_set c.own_list.new.lists.items c.in_ok-own.own c.push.new.self in
    let numbers = c.own_list.new.numbers.items in
    subst (λ (at : ℕ). OnOk c.push.result (Contains (get_or (lists_by lists numbers) at []) c.args.number))
    c.code.ensures.value (pushed (goal.at.returns-clause-listed c).After-push).0

pub returns-clause-more : goal.returns-clause-more
returns-clause-more c =
    let lists = slice_set c.own_list.new.lists.items c.in_ok-own.own c.push.new.self in
    let numbers = c.own_list.new.numbers.items in
    subst (λ (old : List (List ℕ)). ListsMore old (lists_by lists numbers))
    (c.own_list.ensures.same ∙ c.self.view_is) (pushed (goal.at.returns-clause-more c).After-push).1
