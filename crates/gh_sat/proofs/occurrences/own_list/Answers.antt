use Rattle.std.proofs.Common.{◌≡◌, ◌<◌, ◌≤◌, ◌∙◌, zero, suc, refl, ap, length, arith, get_or, sym, List, ℕ, [], ◌∷◌}
use Rattle.std.proofs.Common.{◌++◌}
use Rattle.std.specs.Prelude.{slice_set}
use Rattle.gh_sat.specs.Watch.{lists_by}
use Rattle.gh_sat.proofs.ListsLemmas.{by_own}
use Rattle.gh_sat.proofs.occurrences.own_list.Goals as goal

any_default : {X : Type 0} (xs : List X) (i : ℕ) (d e : X) → i < length xs → get_or xs i d ≡ get_or xs i e
any_default [] i d e h = absurd (omega arith)
any_default (x ∷ xs) zero d e h = refl
any_default (x ∷ xs) (suc i) d e h = any_default xs i d e (omega arith)

none_at : (numbers : List ℕ) (code x : ℕ) → code < length numbers → x ≡ get_or numbers code x → x ≤ 0
    → get_or numbers code 0 ≡ 0
none_at numbers code x h read low = any_default numbers code 0 x h ∙ sym read ∙ omega arith

pub returns-clause-same : goal.returns-clause-same
returns-clause-same c =
    let lists = c.args.lists.now.items in
    let numbers = c.args.numbers.now.items in
    let r = c.requires.lists in
    let was : get_or numbers c.args.code 0 ≡ 0 =
    none_at numbers c.args.code c.index-number.result.now c.requires.within c.index-number.ensures
    (let f = c.if-number-gt0.false in omega arith) in
    let more : c.push.new.self.items ≡ lists ++ [] ∷ [] =
    c.in_ok-push.ensures.items ∙ ap (λ (x : List ℕ). lists ++ x ∷ []) c.new.ensures in
    ap (λ (ls : List (List ℕ)). lists_by ls (slice_set numbers c.args.code c.len-next.result)) more
    ∙ by_own lists numbers c.args.code c.len-next.result r.within was c.requires.within r.empty (omega arith)
