-- A literal more.
use Rattle.std.proofs.Common.{◌≡◌, ◌≢◌, inl, inr, ℕ, suc, ◌+◌, ◌<◌, ◌≤◌, false, min, max, List, [], ◌∷◌, ◌++◌, length}
use Rattle.std.proofs.Common.{get_or, take, Some, refl, sym, ap, ◌∙◌, subst, arith, take_all}
use Rattle.std.specs.Prelude.{slice_get, Contains}
use Rattle.std.proofs.lemmas.List.{length_push, append-nil, take_more}
use Rattle.std.proofs.lemmas.List.Elements.{All-weaker, All-push, Contains-append_left, Contains-push}
use Rattle.std.proofs.lemmas.List.Elements.{Contains-push_cases}
use Rattle.std.proofs.lemmas.Option.{slice_get-get_or}
use Rattle.gh_base.specs.declared.atom.Term.{Term}
use Rattle.gh_base.specs.declared.atom.Atom.TheVariants.{Eq}
use Rattle.gh_base.specs.declared.atom.Lit.{Lit}
use Rattle.gh_base.specs.declared.sizes.Sizes.{Sizes}
use Rattle.gh_base.specs.Atoms.{IsInRange, AreInRange, term}
use Rattle.gh_cc.specs.declared.moving.IndexedLits.{IndexedLits}
use Rattle.gh_cc.specs.declared.partition.Link.{Link}
use Rattle.gh_cc.specs.declared.signatures.SignatureEntry.{SignatureEntry}
use Rattle.gh_cc.specs.Partitions.{Merged, rep, relabel, equality_of}
use Rattle.gh_cc.specs.Signatures.{Filed}
use Rattle.gh_cc.specs.Uses.{AreEnds, JoinsLighter}
use Rattle.gh_cc.specs.Asserted.{equality}
use Rattle.gh_cc.specs.Kept.{normal, reps, IsEntry, IsFiled, AllFiled, AreTied, Grows, LinksMore}
use Rattle.gh_base.proofs.ListLemmas.{get_front, get_last}
use Rattle.gh_cc.proofs.PartitionLemmas.{rep_own, rep_more, rep_joins, relabel_same, merges_more}
use Rattle.gh_cc.proofs.FilingLemmas.{normal_coarser, filed_along, grows_find}

pub entry_front : (s : Sizes) (r : ℕ → ℕ) (lits more : List Lit) (e : SignatureEntry) → IsEntry s r lits e
    → IsEntry s r (lits ++ more) e
entry_front s r lits more e h = record {
  lit = h.lit;
  atom = h.atom;
  there = get_front lits more e.lit h.lit h.there;
  relation = h.relation;
  in_range = h.in_range;
  number = h.number;
  same = h.same;
}

-- a literal that joins nothing new
pub tied_more : (s : Sizes) (lits : List Lit) (p : Merged) (f : Filed) (l : Lit) → AreTied s lits p f
    → IsInRange s l.atom
    → ((a b : Term) → l ≡ equality a b → reps p.links a.0 ≡ reps p.links b.0) → AreTied s (lits ++ l ∷ []) p f
tied_more s lits p f l t inside joins = record {
  in_range = All-push (λ (k : Lit). IsInRange s k.atom) lits l t.in_range inside;
  terms = t.terms;
  merges = t.merges;
  count = t.count;
  few = t.few;
  state = record {
    linked = λ k there. Contains-append_left lits (l ∷ []) (equality_of k) (t.state.linked k there);
    joined = λ a b there.
        elim (Contains-push_cases lits l (equality a b) there) as (λ _. reps p.links a.0 ≡ reps p.links b.0) [
          | inl old ↦ t.state.joined a b old
          | inr new ↦ joins a b new
        ];
    named = All-weaker (IsEntry s (reps p.links) lits) (IsEntry s (reps p.links) (lits ++ l ∷ []))
        (entry_front s (reps p.links) lits (l ∷ [])) f.entries t.state.named;
  };
}

reps_step : (links : List Link) (l : Link) (t : ℕ) → reps (links ++ l ∷ []) t ≡ relabel (reps links) l t
reps_step links l t = rep_more links l t

pub reps_coarser : (links : List Link) (l : Link) (t : ℕ)
    → reps (links ++ l ∷ []) (reps links t) ≡ reps (links ++ l ∷ []) t
reps_coarser links l t =
    reps_step links l (reps links t)
    ∙ relabel_same (reps links) l (reps links t) t (rep_own links (length links) t)
    ∙ sym (reps_step links l t)

pub reps_same : (links : List Link) (l : Link) (a b : ℕ) → reps links a ≡ reps links b
    → reps (links ++ l ∷ []) a ≡ reps (links ++ l ∷ []) b
reps_same links l a b e = reps_step links l a ∙ relabel_same (reps links) l a b e ∙ sym (reps_step links l b)

pub reps_joined : (links : List Link) (l : Link) → reps (links ++ l ∷ []) l.from.0 ≡ reps (links ++ l ∷ []) l.to.0
reps_joined links l =
    let long : suc (length links) ≡ length (links ++ l ∷ []) = omega (arith, length_push links l) in
    subst (λ n. rep (links ++ l ∷ []) n l.from.0 ≡ rep (links ++ l ∷ []) n l.to.0) long
    (rep_joins (links ++ l ∷ []) (length links) l (get_last links l))

pub equality_is : (a b : Term) → a.0 ≤ b.0 → equality_of (record { from = a; to = b }) ≡ equality a b
equality_is a b h =
    let low : min a.0 b.0 ≡ a.0 = omega arith in
    let high : max a.0 b.0 ≡ b.0 = omega arith in
    ap (λ (n : ℕ). equality (term n) (term (max a.0 b.0))) low ∙ ap (λ (n : ℕ). equality a (term n)) high

equality_turned : (a b : Term) → a.0 ≤ b.0 → equality_of (record { from = b; to = a }) ≡ equality a b
equality_turned a b h =
    let low : min b.0 a.0 ≡ a.0 = omega arith in
    let high : max b.0 a.0 ≡ b.0 = omega arith in
    ap (λ (n : ℕ). equality (term n) (term (max b.0 a.0))) low ∙ ap (λ (n : ℕ). equality a (term n)) high

-- a link of two terms is of their equality, whichever way it goes
pub ends_equality : (l : Link) (a b : Term) → AreEnds l a b → a.0 ≤ b.0 → equality_of l ≡ equality a b
ends_equality l a b (inl e) h =
    let is : l ≡ record { from = a; to = b } = λ i. record { from = e.0 i; to = e.1 i } in
    ap equality_of is ∙ equality_is a b h
ends_equality l a b (inr e) h =
    let is : l ≡ record { from = b; to = a } = λ i. record { from = e.0 i; to = e.1 i } in
    ap equality_of is ∙ equality_turned a b h

-- what holds of both terms holds of both ends
pub ends_range : (l : Link) (a b : Term) (n : ℕ) → AreEnds l a b → a.0 < n → b.0 < n → (l.from.0 < n) × (l.to.0 < n)
ends_range l a b n (inl e) ha hb =
    (subst (λ (t : Term). t.0 < n) (sym e.0) ha, subst (λ (t : Term). t.0 < n) (sym e.1) hb)
ends_range l a b n (inr e) ha hb =
    (subst (λ (t : Term). t.0 < n) (sym e.0) hb, subst (λ (t : Term). t.0 < n) (sym e.1) ha)

pub ends_apart : (r : ℕ → ℕ) (l : Link) (a b : Term) → AreEnds l a b → r a.0 ≢ r b.0 → r l.from.0 ≢ r l.to.0
ends_apart r l a b (inl e) apart = λ h. apart (ap (λ (t : Term). r t.0) (sym e.0) ∙ h ∙ ap (λ (t : Term). r t.0) e.1)
ends_apart r l a b (inr e) apart =
    λ h. apart (ap (λ (t : Term). r t.0) (sym e.1) ∙ sym h ∙ ap (λ (t : Term). r t.0) e.0)

pub ends_joined : (links : List Link) (l : Link) (a b : Term) → AreEnds l a b
    → reps (links ++ l ∷ []) a.0 ≡ reps (links ++ l ∷ []) b.0
ends_joined links l a b (inl e) = ap (λ (t : Term). reps (links ++ l ∷ []) t.0) (sym e.0) ∙ reps_joined links l
    ∙ ap (λ (t : Term). reps (links ++ l ∷ []) t.0) e.1
ends_joined links l a b (inr e) = ap (λ (t : Term). reps (links ++ l ∷ []) t.0) (sym e.1) ∙ sym (reps_joined links l)
    ∙ ap (λ (t : Term). reps (links ++ l ∷ []) t.0) e.0

pub same_equality : (a b x y : Term) → equality a b ≡ equality x y → (a ≡ x) × (b ≡ y)
same_equality a b x y e = let f : Eq a b ≡ Eq x y = ap (λ (l : Lit). l.atom) e in (cc f, cc f)

-- an equality that joins two classes
pub tied_merge : (s : Sizes) (lits : List Lit) (p : Merged) (f : Filed) (k : Link) (a b : Term) → AreTied s lits p f
    → IsInRange s (Eq a b) → AreEnds k a b → reps p.links a.0 ≢ reps p.links b.0
    → AreTied s (lits ++ equality a b ∷ []) (record { terms = p.terms; links = p.links ++ k ∷ [] }) f
tied_merge s lits p f k a b t inside ends apart =
    let below = ends_range k a b s.terms ends (omega (arith, inside.0, inside.1)) inside.1 in
    let l = equality a b in
    let now = p.links ++ k ∷ [] in
    let turn : (e : SignatureEntry) → IsEntry s (reps p.links) lits e → IsEntry s (reps now) (lits ++ l ∷ []) e =
    λ e h. record {
      lit = h.lit;
      atom = h.atom;
      there = get_front lits (l ∷ []) e.lit h.lit h.there;
      relation = h.relation;
      in_range = h.in_range;
      number = h.number;
      same =
          sym (normal_coarser (reps p.links) (reps now) (reps_coarser p.links k) h.atom)
          ∙ ap (normal (reps now)) h.same
          ∙ normal_coarser (reps p.links) (reps now) (reps_coarser p.links k) h.lit.atom;
    } in
    record {
      in_range = All-push (λ (j : Lit). IsInRange s j.atom) lits l t.in_range inside;
      terms = t.terms;
      merges = merges_more p.terms p.links k t.merges (omega (arith, t.terms, below.0))
          (omega (arith, t.terms, below.1)) (ends_apart (reps p.links) k a b ends apart);
      count = t.count;
      few = t.few;
      state = record {
        linked = λ j there.
            elim (Contains-push_cases p.links k j there) as (λ _. Contains (lits ++ l ∷ []) (equality_of j)) [
              | inl old ↦ Contains-append_left lits (l ∷ []) (equality_of j) (t.state.linked j old)
              | inr new ↦ subst (λ (x : Lit). Contains (lits ++ l ∷ []) x) (sym (ends_equality k a b ends inside.0)
                  ∙ ap equality_of new) (Contains-push lits l)
            ];
        joined = λ x y there.
            elim (Contains-push_cases lits l (equality x y) there) as (λ _. reps now x.0 ≡ reps now y.0) [
              | inl old ↦ reps_same p.links k x.0 y.0 (t.state.joined x y old)
              | inr new ↦
                  let w = same_equality a b x y new in
                  ap (λ (u : Term). reps now u.0) (sym w.0) ∙ ends_joined p.links k a b ends
                  ∙ ap (λ (u : Term). reps now u.0) w.1
            ];
        named = All-weaker (IsEntry s (reps p.links) lits) (IsEntry s (reps now) (lits ++ l ∷ [])) turn f.entries
            t.state.named;
      };
    }

-- the literals before stay filed, and the last one is filed
pub filed_push : (s : Sizes) (lits : List Lit) (links : List Link) (old new : Filed) (l : Lit) → Grows old new
    → AllFiled s lits links old.entries
    → IsFiled s (lits ++ l ∷ []) links new.entries l → AllFiled s (lits ++ l ∷ []) links new.entries
filed_push s lits links old new l g before here =
    All-push (IsFiled s (lits ++ l ∷ []) links new.entries) lits l
    (All-weaker (IsFiled s lits links old.entries) (IsFiled s (lits ++ l ∷ []) links new.entries)
    (λ k h. filed_along s (reps links) lits (lits ++ l ∷ []) old.entries new.entries k.atom k.positive
    (λ i j at. get_front lits (l ∷ []) i j at) (grows_find old new g) h) lits before)
    here

pub links_none : (p : Merged) → LinksMore p p
links_none p = record { added = []; more = sym (append-nil p.links); terms = refl }

-- a list is its front and its last element
pub front_last : (lits : List Lit) (place : ℕ) (d : Lit) → length lits ≡ place + 1
    → take place lits ++ get_or lits place d ∷ [] ≡ lits
front_last lits place d long =
    sym (take_more lits place d (omega arith)) ∙ take_all (place + 1) lits (omega arith)

abbrev pub no_lit : Lit
no_lit = record { atom = Eq (term 0) (term 0); positive = false }

abbrev pub last_of : List Lit → ℕ → Lit
last_of lits place = get_or lits place no_lit

pub last_at : (lits : List Lit) (place : ℕ) → length lits ≡ place + 1 → slice_get lits place ≡ Some (last_of lits place)
last_at lits place long = slice_get-get_or lits place no_lit (omega arith)

pub last_range : (s : Sizes) (lits : List Lit) (place : ℕ) → AreInRange s lits → length lits ≡ place + 1
    → IsInRange s (last_of lits place).atom
last_range s lits place all long = all place no_lit (omega arith)

-- the same, of a list and its last place
pub taken_more : (s : Sizes) (lits : List Lit) (place : ℕ) (p : Merged) (f : Filed) → AreTied s (take place lits) p f
    → length lits ≡ place + 1 → AreInRange s lits
    → ((a b : Term) → last_of lits place ≡ equality a b → reps p.links a.0 ≡ reps p.links b.0) → AreTied s lits p f
taken_more s lits place p f t long all joins =
    subst (λ (ls : List Lit). AreTied s ls p f) (front_last lits place no_lit long)
    (tied_more s (take place lits) p f (last_of lits place) t (last_range s lits place all long) joins)

pub taken_merge : (a : IndexedLits) (place : ℕ) (p now : Merged) (f : Filed) (x y : Term) (rep_x rep_y : ℕ)
    → AreTied a.sizes (take place a.lits.now) p f → length a.lits.now ≡ place + 1 → AreInRange a.sizes a.lits.now
    → last_of a.lits.now place ≡ equality x y → rep_x ≡ reps p.links x.0 → rep_y ≡ reps p.links y.0 → rep_x ≢ rep_y
    → JoinsLighter a.uses.now.list p now x y → AreTied a.sizes a.lits.now now f
taken_merge a place p now f x y rep_x rep_y t long all is x_rep y_rep apart joins =
    let s = a.sizes in
    let lits = a.lits.now in
    let k = joins.link in
    let inside : IsInRange s (Eq x y) = subst (λ (l : Lit). IsInRange s l.atom) is (last_range s lits place all long) in
    let whole : take place lits ++ equality x y ∷ [] ≡ lits = ap (λ (l : Lit). take place lits ++ l ∷ []) (sym is)
    ∙ front_last lits place no_lit long in
    let ne : reps p.links x.0 ≢ reps p.links y.0 = λ e. apart (x_rep ∙ e ∙ sym y_rep) in
    subst (λ (q : Merged). AreTied s lits q f) (sym joins.merged)
    (subst (λ (ls : List Lit). AreTied s ls (record { terms = p.terms; links = p.links ++ k ∷ [] }) f) whole
    (tied_merge s (take place lits) p f k x y t inside joins.ends ne))

pub taken_filed : (s : Sizes) (lits : List Lit) (place : ℕ) (links : List Link) (old new : Filed)
    → length lits ≡ place + 1 → Grows old new → AllFiled s (take place lits) links old.entries
    → IsFiled s lits links new.entries (last_of lits place) → AllFiled s lits links new.entries
taken_filed s lits place links old new long g before here =
    let whole = front_last lits place no_lit long in
    subst (λ (ls : List Lit). AllFiled s ls links new.entries) whole
    (filed_push s (take place lits) links old new (last_of lits place) g before
    (subst (λ (ls : List Lit). IsFiled s ls links new.entries (last_of lits place)) (sym whole) here))

pub same_along : (r : ℕ → ℕ) (a b x y : Term) → a ≡ x → b ≡ y → r a.0 ≡ r b.0 → r x.0 ≡ r y.0
same_along r a b x y e f same = ap (λ (t : Term). r t.0) (sym e) ∙ same ∙ ap (λ (t : Term). r t.0) f
