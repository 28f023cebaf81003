use Rattle.std.proofs.Common.{◌≡◌, ◌⊎◌, ◌≤◌, ◌+◌, ◌∙◌, ◌++◌, ◌∷◌, [], ℕ, List, refl, arith, sym, subst, ap, None}
use Rattle.std.proofs.Common.{length}
use Rattle.std.specs.Prelude.{vec_capacity}
use Rattle.std.proofs.lemmas.List.{length_push}
use Rattle.gh_base.specs.declared.sizes.Sizes.{Sizes}
use Rattle.gh_base.specs.declared.atom.Lit.{Lit}
use Rattle.gh_base.specs.Atoms.{count_of}
use Rattle.gh_sat.specs.declared.trail.Step.{Step}
use Rattle.gh_sat.specs.Trail.{Line, SearchState, AreSteps, IsFree, open_level, push}
use Rattle.gh_sat.specs.Status.{IsSettled}
use Rattle.gh_sat.specs.Whole.{IsUnderWay}
use Rattle.gh_sat.specs.contracts.clause_search.ClauseSearch.{the_view}
use Rattle.gh_sat.proofs.ListLemmas.{le_along, le_le}
use Rattle.gh_sat.proofs.WholeLemmas.{whole_open}
use Rattle.gh_sat.proofs.clause_search.ClauseSearch.assume.Goals.{After-put}
use Rattle.gh_sat.proofs.clause_search.ClauseSearch.assume.Goals as goal

more_than : {n a b : ℕ} → b ≡ a + 1 → n ≤ a → n + 1 ≤ b
more_than e h = omega arith

-- after the literal was put there is room for its level
room : (z : Sizes) (trail new : List Step) (x : Step) (n : ℕ) → AreSteps (record { sizes = z; steps = new })
    → new ≡ trail ++ x ∷ [] → n ≤ length trail → n + 1 ≤ count_of z
room z trail new x n valid e h =
    let few : length new ≤ count_of z = valid.few in
    le_le (let l : length new ≡ length trail + 1 = ap length e ∙ length_push trail x in more_than l h) few

-- the trail with the decision
decided : (mid new : Line) (t : Line) (lit : Lit) (n m : ℕ) → mid ≡ t → n ≡ m
    → new ≡ push mid (record { lit = lit; level = n + 1; reason = None })
    → new ≡ push t (record { lit = lit; level = m + 1; reason = None })
decided mid new t lit n m e f g =
    g ∙ ap (λ (x : Line). push x (record { lit = lit; level = n + 1; reason = None })) e
    ∙ ap (λ (k : ℕ). push t (record { lit = lit; level = k + 1; reason = None })) f

whole_of : (s : SearchState) (z : Sizes) (trail : List Step) (starts counts : List ℕ) (looked head count start : ℕ)
    (counts' : List ℕ) (lists : List (List ℕ)) (lit : Lit) → z ≡ s.sizes
    → trail ≡ (open_level s lit).trail
    → starts ≡ s.starts ++ start ∷ [] → start ≡ length s.trail → counts' ≡ counts ++ count ∷ []
    → IsUnderWay (open_level s lit) (counts ++ count ∷ []) looked head lists
    → IsUnderWay (record { sizes = z; clauses = s.clauses; trail = trail; starts = starts }) counts' looked head lists
whole_of s z trail starts counts looked head count start counts' lists lit e1 e2 e3 e4 e5 h =
    subst (λ (w : Sizes). IsUnderWay (record { sizes = w; clauses = s.clauses; trail = trail; starts = starts }) counts'
    looked head lists) (sym e1)
    (subst (λ (t : List Step). IsUnderWay (record s { trail = t; starts = starts }) counts' looked head lists)
    (sym e2)
    (subst (λ (t : List ℕ). IsUnderWay (record s { trail = (open_level s lit).trail; starts = t }) counts' looked head
    lists) (sym (e3 ∙ ap (λ n. s.starts ++ n ∷ []) e4))
    (subst (λ (t : List ℕ). IsUnderWay (open_level s lit) t looked head lists) (sym e5) h)))

-- the trail has the decision
put_is : (c : After-put) → c.put.new.self ≡ push c.self.inside.trail
    (record { lit = c.args.lit; level = length (the_view c.self.inside).starts + 1; reason = None })
put_is c =
    let n = length (the_view c.self.inside).starts in
    let same : c.len.result ≡ n = omega arith in
    decided c.self.inside.trail c.put.new.self c.self.inside.trail c.args.lit c.len.result n refl same c.put.ensures.put

-- so there is room for its level
room_is : (c : After-put) → length (the_view c.self.inside).starts + 1 ≤ count_of c.self.inside.trail.sizes
room_is c =
    let s = the_view c.self.inside in
    let put = put_is c in
    let r = room c.put.new.self.sizes s.trail c.put.new.self.steps _ (length s.starts) c.put.ensures.valid
    (ap (λ (t : Line). t.steps) put) c.self.invariant.0.sound.few in
    le_along refl (ap (λ (t : Line). count_of t.sizes) put) r

pub push_reserved-requires : goal.push_reserved-requires
push_reserved-requires c =
    let few : length (the_view c.self.inside).starts + 1 ≤ vec_capacity c.self.inside.starts =
    le_le (room_is (goal.at.push_reserved-requires c).After-put) c.self.invariant.1 in
    omega arith

pub push_reserved-requires-2 : goal.push_reserved-requires-2
push_reserved-requires-2 c =
    let s = the_view c.self.inside in
    let i = c.self.invariant in
    let few : length s.starts + 1 ≤ vec_capacity c.self.inside.counts =
    le_le (room_is (goal.at.push_reserved-requires-2 c).After-put) i.2 in
    let same : length c.self.inside.counts.items ≡ length s.starts = i.0.counted in
    omega arith

pub invariant_of-self : goal.invariant_of-self
invariant_of-self c =
    let s = the_view c.self.inside in
    let i = c.self.invariant in
    let lit = c.args.lit in
    let put = put_is (goal.at.invariant_of-self c).After-put in
    let valid : AreSteps (record { sizes = s.sizes; steps = (open_level s lit).trail }) =
    subst AreSteps put c.put.ensures.valid in
    let calm : IsSettled s = subst IsSettled (sym c.self.view_is) c.requires.settled in
    let start : length c.steps.result.now ≡ length s.trail = ap length c.steps.ensures.steps in
    let few : (c.settled_count-count.result ≡ 0)
    ⊎ ((c.settled_count-count.result ≡ c.self.inside.looked) × (c.self.inside.head ≡ length s.trail)) =
    subst (λ (x : List Step). (c.settled_count-count.result ≡ 0)
    ⊎ ((c.settled_count-count.result ≡ c.self.inside.looked) × (c.self.inside.head ≡ length x))) c.steps.ensures.steps
    c.settled_count-count.ensures in
    let sizes : count_of s.sizes ≡ count_of c.put.new.self.sizes = ap (λ (t : Line). count_of t.sizes) (sym put) in (
      whole_of s c.put.new.self.sizes c.put.new.self.steps c.push_reserved.new.self.items c.self.inside.counts.items
          c.self.inside.looked c.self.inside.head c.settled_count-count.result (length c.steps.result.now)
          c.push_reserved-2.new.self.items c.self.inside.occurrences lit
          (ap (λ (t : Line). t.sizes) put) (ap (λ (t : Line). t.steps) put) c.push_reserved.ensures.items start
          c.push_reserved-2.ensures.items
          (whole_open s c.self.inside.counts.items c.self.inside.looked c.self.inside.head c.settled_count-count.result
          c.self.inside.occurrences lit i.0 calm few valid),
      le_along sizes (sym c.push_reserved.ensures.capacity) i.1,
      le_along sizes (sym c.push_reserved-2.ensures.capacity) i.2,
      i.3,
      i.4 ∙ sizes,
    )

pub returns-clause-sound : goal.returns-clause-sound
returns-clause-sound c = (invariant_of-self c).0.sound

pub put-requires-clause-free : goal.put-requires-clause-free
put-requires-clause-free c =
    subst (λ (t : SearchState). IsFree t.trail c.args.lit.atom) (sym c.self.view_is) c.requires.free
