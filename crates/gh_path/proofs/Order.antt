-- The paths of a graph stand in one order.
use Rattle.std.specs.Prelude.{◌≡◌, ◌⊎◌, List, [], ◌∷◌, ◌++◌, map, not, Bool, true, false, Contains}
use Rattle.std.proofs.lemmas.List.Elements.{Contains-append_left, Contains-append_right, Contains-append_cases}
use Rattle.std.proofs.Common.{refl, sym, ◌∙◌, ap, subst, inl, inr}
use Rattle.gh_ast.specs.declared.Expr.{Expr}
use Rattle.gh_path.specs.Graphs.{Check, PathStep, assume_step, Graph, dead_end, ends, moves, guarded, fork}
use Rattle.gh_path.specs.Paths.{Path, at_end, arrived, on_true, on_false, Before, shorter, both_true, both_false}
use Rattle.gh_path.specs.Paths.{true_first, Way, IsInOrder, after_step, ways}
use Rattle.gh_path.specs.Laws.{PathsHaveOneList, PathsAreOrdered}
use Rattle.gh_ast.proofs.Lists.{member_first, member_later, member_cases, no_member, only_member}

-- what a pair of paths in order is, by cases: the second goes on from the first, or both go on along the graph
abbrev Shorter : List PathStep → List PathStep → Type 0
Shorter [] [] = ⊥
Shorter [] (q ∷ qs) = Unit {0}
Shorter (p ∷ ps) qs = ⊥

abbrev Along : Graph → List PathStep → List PathStep → Type 0
Along dead_end ps qs = ⊥
Along (ends c) ps qs = ⊥
Along (moves p g) ps qs =
    (us : List PathStep) × (vs : List PathStep) × (ps ≡ p ∷ us) × (qs ≡ p ∷ vs) × (Shorter us vs ⊎ Along g us vs)
Along (guarded c p g) ps qs =
    (us : List PathStep) × (vs : List PathStep) × (ps ≡ p ∷ us) × (qs ≡ p ∷ vs) × (Shorter us vs ⊎ Along g us vs)
Along (fork l e r g k) ps qs =
    ((us : List PathStep) × (vs : List PathStep) × (ps ≡ assume_step l e r ∷ us) × (qs ≡ assume_step l e r ∷ vs)
    × (Shorter us vs ⊎ Along g us vs))
    ⊎ (((us : List PathStep) × (vs : List PathStep) × (ps ≡ assume_step l (not e) r ∷ us)
    × (qs ≡ assume_step l (not e) r ∷ vs) × (Shorter us vs ⊎ Along k us vs))
    ⊎ ((us : List PathStep) × (vs : List PathStep) × (ps ≡ assume_step l e r ∷ us)
    × (qs ≡ assume_step l (not e) r ∷ vs)))

abbrev Leads : Graph → List PathStep → List PathStep → Type 0
Leads g ps qs = Shorter ps qs ⊎ Along g ps qs

-- both paths take the same step
abbrev Both : PathStep → Graph → List PathStep → List PathStep → Type 0
Both p g ps qs = (us : List PathStep) × (vs : List PathStep) × (ps ≡ p ∷ us) × (qs ≡ p ∷ vs) × Leads g us vs

to_leads : (g : Graph) (ps qs : List PathStep) → Before g ps qs → Leads g ps qs
to_leads _ _ _ shorter = inl tt
to_leads _ _ _ (Before.past {g = g} {ps = us} {qs = vs} b) = inr (us, vs, refl, refl, to_leads g us vs b)
to_leads _ _ _ (Before.on {g = g} {ps = us} {qs = vs} b) = inr (us, vs, refl, refl, to_leads g us vs b)
to_leads _ _ _ (both_true {g = g} {ps = us} {qs = vs} b) = inr (inl (us, vs, refl, refl, to_leads g us vs b))
to_leads _ _ _ (both_false {k = k} {ps = us} {qs = vs} b) = inr (inr (inl (us, vs, refl, refl, to_leads k us vs b)))
to_leads _ _ _ (true_first {ps = us} {qs = vs}) = inr (inr (inr (us, vs, refl, refl)))

from_shorter : (g : Graph) (ps qs : List PathStep) → Shorter ps qs → Before g ps qs
from_shorter g [] [] s = absurd s
from_shorter g [] (q ∷ qs) s = shorter
from_shorter g (p ∷ ps) qs s = absurd s

from_both : (g : Graph) (us vs : List PathStep) → (Along g us vs → Before g us vs) → Leads g us vs → Before g us vs
from_both g us vs below w = elim w [ inl s ↦ from_shorter g us vs s | inr a ↦ below a ]

placed : (g : Graph) (ps qs xs ys : List PathStep) → ps ≡ xs → qs ≡ ys → Before g xs ys → Before g ps qs
placed g ps qs xs ys one two b = subst (λ zs. Before g zs qs) (sym one) (subst (Before g xs) (sym two) b)

from_along : (g : Graph) (ps qs : List PathStep) → Along g ps qs → Before g ps qs
from_along dead_end ps qs a = absurd a
from_along (ends c) ps qs a = absurd a
from_along (moves p g) ps qs (us, vs, one, two, more) =
    placed (moves p g) ps qs (p ∷ us) (p ∷ vs) one two (Before.on (from_both g us vs (λ a. from_along g us vs a) more))
from_along (guarded c p g) ps qs (us, vs, one, two, more) =
    placed (guarded c p g) ps qs (p ∷ us) (p ∷ vs) one two
    (Before.past (from_both g us vs (λ a. from_along g us vs a) more))
from_along (fork l e r g k) ps qs a = elim a [
  | inl t ↦ placed (fork l e r g k) ps qs (assume_step l e r ∷ t.0) (assume_step l e r ∷ t.1) t.2 t.3
      (both_true (from_both g t.0 t.1 (λ b. from_along g t.0 t.1 b) t.4))
  | inr rest ↦ elim rest [
    | inl f ↦ placed (fork l e r g k) ps qs (assume_step l (not e) r ∷ f.0) (assume_step l (not e) r ∷ f.1) f.2 f.3
        (both_false (from_both k f.0 f.1 (λ b. from_along k f.0 f.1 b) f.4))
    | inr d ↦ placed (fork l e r g k) ps qs (assume_step l e r ∷ d.0) (assume_step l (not e) r ∷ d.1) d.2 d.3 true_first
  ]
]

from_leads : (g : Graph) (ps qs : List PathStep) → Leads g ps qs → Before g ps qs
from_leads g ps qs w = from_both g ps qs (λ a. from_along g ps qs a) w

-- the two ways of a comparison part
same_tail : (p : PathStep) (us vs : List PathStep) → p ∷ us ≡ p ∷ vs → us ≡ vs
same_tail p us vs same = cc

same_turn : (l : Expr) (e f : Bool) (r : Expr) (us vs : List PathStep) → assume_step l e r ∷ us ≡ assume_step l f r ∷ vs
    → e ≡ f
same_turn l e f r us vs same = cc

turned : (e : Bool) → e ≡ not e → ⊥
turned true same = absurd cc
turned false same = absurd cc

apart : (l : Expr) (e : Bool) (r : Expr) (us vs : List PathStep) → assume_step l e r ∷ us ≡ assume_step l (not e) r ∷ vs
    → ⊥
apart l e r us vs same = turned e (same_turn l e (not e) r us vs same)

-- no path stands before itself
not_shorter : (ps : List PathStep) → Shorter ps ps → ⊥
not_shorter [] s = s
not_shorter (p ∷ ps) s = s

not_both : (p : PathStep) (g : Graph) (ps : List PathStep) → ((us : List PathStep) → Along g us us → ⊥) → Both p g ps ps
    → ⊥
not_both p g ps below (us, vs, one, two, more) =
    let same : us ≡ vs = same_tail p us vs (sym one ∙ two) in
    elim (subst (λ zs. Leads g us zs) (sym same) more) [ inl s ↦ not_shorter us s | inr a ↦ below us a ]

not_along : (g : Graph) (ps : List PathStep) → Along g ps ps → ⊥
not_along dead_end ps a = a
not_along (ends c) ps a = a
not_along (moves p g) ps a = not_both p g ps (λ us b. not_along g us b) a
not_along (guarded c p g) ps a = not_both p g ps (λ us b. not_along g us b) a
not_along (fork l e r g k) ps a = elim a [
  | inl t ↦ not_both (assume_step l e r) g ps (λ us b. not_along g us b) t
  | inr rest ↦ elim rest [
    | inl f ↦ not_both (assume_step l (not e) r) k ps (λ us b. not_along k us b) f
    | inr d ↦ apart l e r d.0 d.1 (sym d.2 ∙ d.3)
  ]
]

never : (g : Graph) (ps : List PathStep) → Leads g ps ps → ⊥
never g ps w = elim w [ inl s ↦ not_shorter ps s | inr a ↦ not_along g ps a ]

-- the order goes over
not_twice : (ps qs rs : List PathStep) → Shorter ps qs → Shorter qs rs → ⊥
not_twice [] [] rs s t = s
not_twice [] (q ∷ qs) rs s t = t
not_twice (p ∷ ps) qs rs s t = s

shorter_on : (ps qs rs vs : List PathStep) (p : PathStep) → Shorter ps qs → rs ≡ p ∷ vs → Shorter ps rs
shorter_on [] qs rs vs p s same = subst (Shorter []) (sym same) tt
shorter_on (x ∷ ps) qs rs vs p s same = absurd s

not_short : (qs rs us : List PathStep) (p : PathStep) → qs ≡ p ∷ us → Shorter qs rs → ⊥
not_short qs rs us p same s = let none : Shorter (p ∷ us) rs = subst (λ zs. Shorter zs rs) same s in none

-- a path that stands along another isn't empty
ends_long : (g : Graph) (ps qs rs : List PathStep) → Shorter ps qs → Along g qs rs → Shorter ps rs
ends_long dead_end ps qs rs s a = absurd a
ends_long (ends c) ps qs rs s a = absurd a
ends_long (moves p g) ps qs rs s a = shorter_on ps qs rs a.1 p s a.3
ends_long (guarded c p g) ps qs rs s a = shorter_on ps qs rs a.1 p s a.3
ends_long (fork l e r g k) ps qs rs s a = elim a [
  | inl t ↦ shorter_on ps qs rs t.1 (assume_step l e r) s t.3
  | inr rest ↦ elim rest [
    | inl f ↦ shorter_on ps qs rs f.1 (assume_step l (not e) r) s f.3
    | inr d ↦ shorter_on ps qs rs d.1 (assume_step l (not e) r) s d.3
  ]
]

begins_long : (g : Graph) (ps qs rs : List PathStep) → Along g ps qs → Shorter qs rs → ⊥
begins_long dead_end ps qs rs a s = a
begins_long (ends c) ps qs rs a s = a
begins_long (moves p g) ps qs rs a s = not_short qs rs a.1 p a.3 s
begins_long (guarded c p g) ps qs rs a s = not_short qs rs a.1 p a.3 s
begins_long (fork l e r g k) ps qs rs a s = elim a [
  | inl t ↦ not_short qs rs t.1 (assume_step l e r) t.3 s
  | inr rest ↦ elim rest [
    | inl f ↦ not_short qs rs f.1 (assume_step l (not e) r) f.3 s
    | inr d ↦ not_short qs rs d.1 (assume_step l (not e) r) d.3 s
  ]
]

leads_over : (g : Graph) → ((ps qs rs : List PathStep) → Along g ps qs → Along g qs rs → Along g ps rs)
    → (ps qs rs : List PathStep) → Leads g ps qs → Leads g qs rs → Leads g ps rs
leads_over g below ps qs rs w v = elim w [
  | inl s ↦ elim v [ inl t ↦ absurd (not_twice ps qs rs s t) | inr b ↦ inl (ends_long g ps qs rs s b) ]
  | inr a ↦ elim v [ inl t ↦ absurd (begins_long g ps qs rs a t) | inr b ↦ inr (below ps qs rs a b) ]
]

both_over : (p : PathStep) (g : Graph) → ((ps qs rs : List PathStep) → Along g ps qs → Along g qs rs → Along g ps rs)
    → (ps qs rs : List PathStep) → Both p g ps qs → Both p g qs rs → Both p g ps rs
both_over p g below ps qs rs (us, vs, one, two, more) (us', vs', one', two', more') =
    let same : vs ≡ us' = same_tail p vs us' (sym two ∙ one') in
    (us, vs', one, two', leads_over g below us vs vs' more (subst (λ zs. Leads g zs vs') (sym same) more'))

along_over : (g : Graph) (ps qs rs : List PathStep) → Along g ps qs → Along g qs rs → Along g ps rs
along_over dead_end ps qs rs a b = absurd a
along_over (ends c) ps qs rs a b = absurd a
along_over (moves p g) ps qs rs a b = both_over p g (λ us vs zs c d. along_over g us vs zs c d) ps qs rs a b
along_over (guarded k p g) ps qs rs a b = both_over p g (λ us vs zs c d. along_over g us vs zs c d) ps qs rs a b
along_over (fork l e r g k) ps qs rs a b = elim a [
  | inl t ↦ elim b [
    | inl t' ↦ inl (both_over (assume_step l e r) g (λ us vs zs c d. along_over g us vs zs c d) ps qs rs t t')
    | inr rest ↦ elim rest [
      | inl f ↦ absurd (apart l e r t.1 f.0 (sym t.3 ∙ f.2))
      | inr d ↦ inr (inr (t.0, d.1, t.2, d.3))
    ]
  ]
  | inr more ↦ elim more [
    | inl f ↦ elim b [
      | inl t' ↦ absurd (apart l e r t'.0 f.1 (sym t'.2 ∙ f.3))
      | inr rest ↦ elim rest [
        | inl f' ↦ inr (inl (both_over (assume_step l (not e) r) k (λ us vs zs c d. along_over k us vs zs c d) ps qs rs
            f f'))
        | inr d ↦ absurd (apart l e r d.0 f.1 (sym d.2 ∙ f.3))
      ]
    ]
    | inr d ↦ elim b [
      | inl t' ↦ absurd (apart l e r t'.0 d.1 (sym t'.2 ∙ d.3))
      | inr rest ↦ elim rest [
        | inl f' ↦ inr (inr (d.0, f'.1, d.2, f'.3))
        | inr d' ↦ absurd (apart l e r d'.0 d.1 (sym d'.2 ∙ d.3))
      ]
    ]
  ]
]

over : (g : Graph) (ps qs rs : List PathStep) → Leads g ps qs → Leads g qs rs → Leads g ps rs
over g ps qs rs w v = leads_over g (λ us vs zs a b. along_over g us vs zs a b) ps qs rs w v

pub paths_are_ordered : PathsAreOrdered
paths_are_ordered = record {
  never_itself = λ g ps b. never g ps (to_leads g ps ps b);
  goes_over = λ g ps qs rs b c. from_leads g ps rs (over g ps qs rs (to_leads g ps qs b) (to_leads g qs rs c));
}

-- members of a list of ways that all begin with one step
mapped : (p : PathStep) (xs : List Way) (x : Way) → Contains xs x → Contains (map (after_step p) xs) (after_step p x)
mapped p [] x i = absurd (no_member x i)
mapped p (w ∷ xs) x i = elim (member_cases w xs x i) [
  | inl same ↦ subst (λ y. Contains (map (after_step p) (w ∷ xs)) (after_step p y)) same
      (member_first (after_step p w) (map (after_step p) xs))
  | inr more ↦ member_later (after_step p w) (after_step p x) (map (after_step p) xs) (mapped p xs x more)
]

unmapped : (p : PathStep) (xs : List Way) (y : Way) → Contains (map (after_step p) xs) y
    → (x : Way) × Contains xs x × (after_step p x ≡ y)
unmapped p [] y i = absurd (no_member y i)
unmapped p (w ∷ xs) y i = elim (member_cases (after_step p w) (map (after_step p) xs) y i) [
  | inl same ↦ (w, member_first w xs, same)
  | inr more ↦ let found = unmapped p xs y more in (found.0, member_later w found.0 xs found.1, found.2)
]

abbrev IsPath : Graph → Way → Type 0
IsPath g x = Path g x.steps x.check

abbrev way : List PathStep → Check → Way
way ps c = record { steps = ps; check = c }

-- listed, so a path
is_path : (g : Graph) (y : Way) → Contains (ways g) y → IsPath g y
is_path dead_end y i = absurd (no_member y i)
is_path (ends c) y i = subst (IsPath (ends c)) (sym (only_member (way [] c) y i)) at_end
is_path (moves p g) y i = let found = unmapped p (ways g) y i in
    subst (IsPath (moves p g)) found.2 (Path.on (is_path g found.0 found.1))
is_path (guarded c p g) y i = elim (member_cases (way [] c) (map (after_step p) (ways g)) y i) [
  | inl same ↦ subst (IsPath (guarded c p g)) same arrived
  | inr more ↦ let found = unmapped p (ways g) y more in
      subst (IsPath (guarded c p g)) found.2 (Path.past (is_path g found.0 found.1))
]
is_path (fork l e r g k) y i =
    elim (Contains-append_cases (map (after_step (assume_step l e r)) (ways g))
    (map (after_step (assume_step l (not e) r)) (ways k)) y i) [
      | inl one ↦ let found = unmapped (assume_step l e r) (ways g) y one in
          subst (IsPath (fork l e r g k)) found.2 (on_true (is_path g found.0 found.1))
      | inr two ↦ let found = unmapped (assume_step l (not e) r) (ways k) y two in
          subst (IsPath (fork l e r g k)) found.2 (on_false (is_path k found.0 found.1))
    ]

-- a path, so listed
is_listed : (g : Graph) (ps : List PathStep) (c : Check) → Path g ps c → Contains (ways g) (way ps c)
is_listed _ _ _ (at_end {c = c}) = member_first (way [] c) []
is_listed _ _ _ (arrived {g = g} {step = p} {c = c}) = member_first (way [] c) (map (after_step p) (ways g))
is_listed _ _ _ (Path.past {g = g} {d = d} {step = p} {ps = ps} {c = c} path) =
    member_later (way [] d) (way (p ∷ ps) c) (map (after_step p) (ways g))
    (mapped p (ways g) (way ps c) (is_listed g ps c path))
is_listed _ _ _ (Path.on {g = g} {step = p} {ps = ps} {c = c} path) =
    mapped p (ways g) (way ps c) (is_listed g ps c path)
is_listed _ _ _ (on_true {l = l} {e = e} {r = r} {g = g} {k = k} {ps = ps} {c = c} path) =
    Contains-append_left (map (after_step (assume_step l e r)) (ways g))
    (map (after_step (assume_step l (not e) r)) (ways k)) (way (assume_step l e r ∷ ps) c)
    (mapped (assume_step l e r) (ways g) (way ps c) (is_listed g ps c path))
is_listed _ _ _ (on_false {l = l} {e = e} {r = r} {g = g} {k = k} {ps = ps} {c = c} path) =
    Contains-append_right (map (after_step (assume_step l e r)) (ways g))
    (map (after_step (assume_step l (not e) r)) (ways k)) (way (assume_step l (not e) r ∷ ps) c)
    (mapped (assume_step l (not e) r) (ways k) (way ps c) (is_listed k ps c path))

-- where the order of one graph is that of another after a step
map_in_order : (g h : Graph) (p : PathStep) → ((ps qs : List PathStep) → Before g ps qs → Before h (p ∷ ps) (p ∷ qs))
    → (xs : List Way) → IsInOrder g xs → IsInOrder h (map (after_step p) xs)
map_in_order g h p steps [] o = tt
map_in_order g h p steps (x ∷ xs) o = (
  λ y i. let found = unmapped p xs y i in
      subst (λ z. Before h (p ∷ x.steps) z.steps) found.2 (steps x.steps found.0.steps (o.0 found.0 found.1)),
  map_in_order g h p steps xs o.1,
)

both_in_order : (g : Graph) (xs ys : List Way) → IsInOrder g xs → IsInOrder g ys
    → ((x y : Way) → Contains xs x → Contains ys y → Before g x.steps y.steps) → IsInOrder g (xs ++ ys)
both_in_order g [] ys o q f = q
both_in_order g (x ∷ xs) ys o q f = (
  λ y i. elim (Contains-append_cases xs ys y i) [ inl one ↦ o.0 y one | inr two ↦ f x y (member_first x xs) two ],
  both_in_order g xs ys o.1 q (λ z y i j. f z y (member_later x z xs i) j),
)

in_order : (g : Graph) → IsInOrder g (ways g)
in_order dead_end = tt
in_order (ends c) = (λ y i. absurd (no_member y i), tt)
in_order (moves p g) = map_in_order g (moves p g) p (λ ps qs b. Before.on b) (ways g) (in_order g)
in_order (guarded c p g) = (
  λ y i. let found = unmapped p (ways g) y i in subst (λ z. Before (guarded c p g) [] z.steps) found.2 shorter,
  map_in_order g (guarded c p g) p (λ ps qs b. Before.past b) (ways g) (in_order g),
)
in_order (fork l e r g k) =
    both_in_order (fork l e r g k) (map (after_step (assume_step l e r)) (ways g))
    (map (after_step (assume_step l (not e) r)) (ways k))
    (map_in_order g (fork l e r g k) (assume_step l e r) (λ ps qs b. both_true b) (ways g) (in_order g))
    (map_in_order k (fork l e r g k) (assume_step l (not e) r) (λ ps qs b. both_false b) (ways k) (in_order k))
    (λ x y i j.
    let one = unmapped (assume_step l e r) (ways g) x i in
    let two = unmapped (assume_step l (not e) r) (ways k) y j in
    subst (λ z. Before (fork l e r g k) z.steps y.steps) one.2
    (subst (λ z. Before (fork l e r g k) (assume_step l e r ∷ one.0.steps) z.steps) two.2 true_first))

-- two lists in order with the same members are one
abbrev Within : List Way → List Way → Type 0
Within xs ys = (x : Way) → Contains xs x → Contains ys x

not_itself : (g : Graph) (x y : Way) → Before g x.steps y.steps → x ≡ y → ⊥
not_itself g x y b same = never g y.steps (to_leads g y.steps y.steps (subst (λ z. Before g z.steps y.steps) same b))

same_lists : (g : Graph) (xs ys : List Way) → IsInOrder g xs → IsInOrder g ys → Within xs ys → Within ys xs → xs ≡ ys
same_lists g [] [] o q f h = refl
same_lists g [] (y ∷ ys) o q f h = absurd (no_member y (h y (member_first y ys)))
same_lists g (x ∷ xs) [] o q f h = absurd (no_member x (f x (member_first x xs)))
same_lists g (x ∷ xs) (y ∷ ys) o q f h =
    ap (λ z. z ∷ xs) heads ∙ ap (λ zs. y ∷ zs) (same_lists g xs ys o.1 q.1 less more)
  where
    heads : x ≡ y
    heads = elim (member_cases y ys x (f x (member_first x xs))) [
      | inl same ↦ sym same
      | inr after ↦ elim (member_cases x xs y (h y (member_first y ys))) [
        | inl same ↦ same
        | inr before ↦ absurd (never g x.steps
            (over g x.steps y.steps x.steps (to_leads g x.steps y.steps (o.0 y before))
            (to_leads g y.steps x.steps (q.0 x after))))
      ]
    ]

    less : Within xs ys
    less z i =
        elim (member_cases y ys z (f z (member_later x z xs i)))
        [ inl same ↦ absurd (not_itself g x z (o.0 z i) (heads ∙ same)) | inr after ↦ after ]

    more : Within ys xs
    more z i =
        elim (member_cases x xs z (h z (member_later y z ys i)))
        [ inl same ↦ absurd (not_itself g y z (q.0 z i) (sym heads ∙ same)) | inr after ↦ after ]

pub paths_have_one_list : PathsHaveOneList
paths_have_one_list g = record {
  is_list = record { members = λ y. (is_path g y, is_listed g y.steps y.check); in_order = in_order g };
  one = λ xs is. same_lists g xs (ways g) is.in_order (in_order g)
      (λ x i. is_listed g x.steps x.check ((is.members x).0 i)) (λ x i. (is.members x).1 (is_path g x i));
}
