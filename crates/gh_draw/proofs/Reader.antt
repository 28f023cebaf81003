-- Steps of reading: a word first, what is read after it, and a list that goes on.
use Rattle.std.specs.Prelude.{◌≡◌, ℕ, suc, ◌+◌, ◌<◌, ◌≤◌, List, [], ◌∷◌, ◌++◌, codes, length, get_or, take, drop}
use Rattle.std.specs.Prelude.{Option, Some, None, is_some, IfNone, true, false, All, Contains}
use Rattle.std.specs.Ordering.{nat_cmp}
use Rattle.std.specs.FinMap.{entries, empty, len, len-entries, len-empty, insert, put, entries-insert}
use Rattle.std.proofs.Math.Seq.{drop-cons}
use Rattle.std.proofs.Math.ListN.{drop_of_length-le}
use Rattle.std.specs.Cmp.{nat_cmp_total}
use Rattle.std.proofs.Common.{refl, sym, ◌∙◌, ap, subst, arith, add-one, Greater}
use Rattle.std.proofs.lemmas.Bool.Decides.{nat_tests}
use Rattle.std.proofs.lemmas.List.{append_cancel_left, length-append, map-append, take_more, length-take-le}
use Rattle.std.proofs.lemmas.List.{get_or-take}
use Rattle.std.proofs.lemmas.List.Elements.{All-head, All-tail, All-nil, All-push, All-weaker}
use Rattle.gh_ast.specs.Programs.{Name}
use Rattle.gh_assert.specs.Heaps.{Heap}
use Rattle.gh_assert.specs.declared.store.Entry.{Entry}
use Rattle.gh_assert.specs.Stores.{listed_names}
use Rattle.gh_trace.specs.declared.state.State.{State}
use Rattle.gh_draw.specs.Reading.{IsFrontRead, After, ShowsWord, ShowsNumber, ShowsValue, ShowsEntries, ShowsCell}
use Rattle.gh_draw.specs.Reading.{ShowsCellAbove, ShowsCells, ShowsHeap, ShowsState, ShowsStates, ShowsCondition}
use Rattle.gh_draw.specs.Reading.{heading, AreDistinctNames}
use Rattle.gh_draw.proofs.Going.{Goes, Turns, goes_begin, goes_more}
use Rattle.gh_draw.proofs.Fronts.{entry, number_one, after_one, value_one, entries_one, cell_one, above_one, state_one}

-- what is read after a word
pub read_after : {X : Type 0} (w : List ℕ) (S : List ℕ → X → List ℕ → Type 0) (old mid new : List ℕ) (r : Option X)
    → old ≡ w ++ mid → IsFrontRead S mid new r → IsFrontRead (After w S) old new r
read_after {X} w S old mid new (Some x) e h = (mid, e, h)
read_after {X} w S old mid new None e h =
    λ x rest s. h x rest (subst (λ z. S z x rest) (append_cancel_left w s.0 mid (sym s.1 ∙ e)) s.2)

-- the word is missing
pub missing_after : {X : Type 0} (w : List ℕ) (S : List ℕ → X → List ℕ → Type 0) (old new : List ℕ)
    → IsFrontRead (ShowsWord w) old new None → IsFrontRead (After w S) old new None
missing_after {X} w S old new h = λ x rest s. h tt s.0 s.1

-- cells

pub cell_missing_to : (old mid new : List ℕ) (at : ℕ) → ShowsNumber old at mid
    → IsFrontRead (After (codes "->") ShowsNumber) mid new None → (c : ℕ × ℕ) (rest : List ℕ) → ShowsCell old c rest → ⊥
cell_missing_to old mid new at first h c rest (m, s, u) =
    let one = number_one old at c.0 mid m first s in
    h c.1 rest (subst (λ z. After (codes "->") ShowsNumber z c.1 rest) (sym one.1) u)

pub cell_missing : (old new : List ℕ) → IsFrontRead ShowsNumber old new None → (c : ℕ × ℕ) (rest : List ℕ)
    → ShowsCell old c rest → ⊥
cell_missing old new h c rest (m, s, u) = h c.0 m s

pub above_missing : (low : ℕ) (old new : List ℕ) → IsFrontRead (After (codes " ") ShowsCell) old new None
    → (c : ℕ × ℕ) (rest : List ℕ) → ShowsCellAbove low old c rest → ⊥
above_missing low old new h c rest s = h c rest s.cell

pub above_low : (low : ℕ) (old new : List ℕ) (d : ℕ × ℕ) → After (codes " ") ShowsCell old d new → d.0 ≤ low
    → (c : ℕ × ℕ) (rest : List ℕ) → ShowsCellAbove low old c rest → ⊥
above_low low old new d s below c rest u =
    let one = after_one (codes " ") ShowsCell cell_one old d c new rest s u.cell in
    let same : d.0 ≡ c.0 = ap (λ z. z.0) one.0 in
    let above : low < c.0 = u.above in
    absurd (omega (arith, same, above, below))

-- turns of the loops

pub entries_turn : (n : Name) (ns : List Name) (v : ℕ) (old new : List ℕ) → ShowsValue n old v new
    → Turns (ShowsEntries (n ∷ ns) old) (ShowsEntries ns new) (entry n v)
entries_turn n ns v old new s = record {
  sound = λ es rest t. (v, new, es, refl, s, t);
  whole = λ fs rest t. turn fs rest t;
}
  where
    turn : (fs : List Entry) (rest : List ℕ) → ShowsEntries (n ∷ ns) old fs rest
        → (es : List Entry) × (fs ≡ entry n v ∷ es) × ShowsEntries ns new es rest
    turn fs rest (w, m, gs, is, sw, t) =
        let one = value_one n old v w new m s sw in
        (gs, is ∙ ap (λ z. entry n z ∷ gs) (sym one.0), subst (λ z. ShowsEntries ns z gs rest) (sym one.1) t)

pub cells_turn : (low : ℕ) (c : ℕ × ℕ) (old new : List ℕ) → ((rest : List ℕ) → old ≡ codes "\n" ++ rest → ⊥)
    → ShowsCellAbove low old c new → Turns (ShowsCells low old) (ShowsCells c.0 new) c
cells_turn low c old new more_to_come s = record {
  sound = λ es rest t. (new, s, t);
  whole = λ fs rest t. turn fs rest t;
}
  where
    turn : (fs : List (ℕ × ℕ)) (rest : List ℕ) → ShowsCells low old fs rest
        → (es : List (ℕ × ℕ)) × (fs ≡ c ∷ es) × ShowsCells c.0 new es rest
    turn [] rest t = absurd (more_to_come rest t)
    turn (d ∷ ds) rest (m, u, us) =
        let one = above_one low old c d new m s u in
        let moved : ShowsCells c.0 new ds rest =
        subst (λ z. ShowsCells c.0 z ds rest) (sym one.1)
        (subst (λ (z : ℕ × ℕ). ShowsCells z.0 m ds rest) (sym one.0) us) in
        (ds, ap (λ z. z ∷ ds) (sym one.0), moved)

pub states_turn : (ns : List Name) (k : ℕ) (x : State) (old new : List ℕ)
    → ((rest : List ℕ) → old ≡ codes "end\n" ++ rest → ⊥) → ShowsState ns k old x new
    → Turns (ShowsStates ns k old) (ShowsStates ns (suc k) new) x
states_turn ns k x old new more_to_come s = record {
  sound = λ es rest t. (new, s, t);
  whole = λ fs rest t. turn fs rest t;
}
  where
    turn : (fs : List State) (rest : List ℕ) → ShowsStates ns k old fs rest
        → (es : List State) × (fs ≡ x ∷ es) × ShowsStates ns (suc k) new es rest
    turn [] rest t = absurd (more_to_come rest t)
    turn (y ∷ ys) rest (m, u, us) =
        let one = state_one ns k old x y new m s u in
        (ys, ap (λ z. z ∷ ys) (sym one.0), subst (λ z. ShowsStates ns (suc k) z ys rest) (sym one.1) us)

-- exits of the loops

pub entries_missing : (n : Name) (ns ms : List Name) (now old new : List ℕ) (done : List Entry)
    → Goes (ShowsEntries (n ∷ ns) now) (ShowsEntries ms old) done
    → IsFrontRead (ShowsValue n) now new None → (es : List Entry) (rest : List ℕ) → ShowsEntries ms old es rest → ⊥
entries_missing n ns ms now old new done g h es rest s = at (g.whole es rest s)
  where
    at : (fs : List Entry) × (es ≡ done ++ fs) × ShowsEntries (n ∷ ns) now fs rest → ⊥
    at (fs, is, (v, mid, gs, js, sv, t)) = h v mid sv

no_more : {X : Type 0} (xs : List X) → xs ++ [] ≡ xs
no_more [] = refl
no_more (x ∷ xs) = ap (λ z. x ∷ z) (no_more xs)

pub entries_end : (ms : List Name) (now old : List ℕ) (done : List Entry)
    → Goes (ShowsEntries [] now) (ShowsEntries ms old) done → ShowsEntries ms old done now
entries_end ms now old done g = subst (λ z. ShowsEntries ms old z now) (no_more done) (g.sound [] now (refl, refl))

pub cells_missing : (low : ℕ) (now old new : List ℕ) (h : Heap)
    → Goes (ShowsCells low now) (ShowsCells 0 old) (entries h) → ((rest : List ℕ) → now ≡ codes "\n" ++ rest → ⊥)
    → IsFrontRead (ShowsCellAbove low) now new None → (g : Heap) (rest : List ℕ) → ShowsHeap old g rest → ⊥
cells_missing low now old new h goes more_to_come none g rest s = at (goes.whole (entries g) rest s)
  where
    at : (es : List (ℕ × ℕ)) × (entries g ≡ entries h ++ es) × ShowsCells low now es rest → ⊥
    at ([], is, t) = more_to_come rest t
    at (c ∷ cs, is, (m, u, us)) = none c m u

pub cells_end : (low : ℕ) (now old new : List ℕ) (h : Heap) → Goes (ShowsCells low now) (ShowsCells 0 old) (entries h)
    → now ≡ codes "\n" ++ new → ShowsHeap old h new
cells_end low now old new h goes e = subst (λ z. ShowsCells 0 old z new) (no_more (entries h)) (goes.sound [] new e)

pub states_missing : (ns : List Name) (k : ℕ) (now old new : List ℕ) (done : List State)
    → Goes (ShowsStates ns k now) (ShowsStates ns 0 old) done → ((rest : List ℕ) → now ≡ codes "end\n" ++ rest → ⊥)
    → IsFrontRead (ShowsState ns k) now new None → (xs : List State) (rest : List ℕ) → ShowsStates ns 0 old xs rest → ⊥
states_missing ns k now old new done goes more_to_come none xs rest s = at (goes.whole xs rest s)
  where
    at : (es : List State) × (xs ≡ done ++ es) × ShowsStates ns k now es rest → ⊥
    at ([], is, t) = more_to_come rest t
    at (y ∷ ys, is, (m, u, us)) = none y m u

pub states_end : (ns : List Name) (k : ℕ) (now old new : List ℕ) (done : List State)
    → Goes (ShowsStates ns k now) (ShowsStates ns 0 old) done → now ≡ codes "end\n" ++ new
    → ShowsStates ns 0 old done new
states_end ns k now old new done goes e = subst (λ z. ShowsStates ns 0 old z new) (no_more done) (goes.sound [] new e)

-- a state part by part

pub state_no_heading : (ns : List Name) (k : ℕ) (old new : List ℕ) → IsFrontRead (ShowsWord (heading k)) old new None
    → IsFrontRead (ShowsState ns k) old new None
state_no_heading ns k old new h = λ x rest s. h tt s.values s.begins

pub state_no_store : (ns : List Name) (k : ℕ) (old mid new last : List ℕ) → old ≡ heading k ++ mid
    → IsFrontRead (ShowsEntries ns) mid new None → IsFrontRead (ShowsState ns k) old last None
state_no_store ns k old mid new last e h = λ x rest s.
    h x.store (codes "\nheap" ++ s.cells)
    (subst (λ z. ShowsEntries ns z x.store (codes "\nheap" ++ s.cells))
    (append_cancel_left (heading k) s.values mid (sym s.begins ∙ e)) s.store)

store_same : (ns : List Name) (k : ℕ) (old mid new : List ℕ) (es : List Entry) → old ≡ heading k ++ mid
    → ShowsEntries ns mid es new → (x : State) (rest : List ℕ) → (s : ShowsState ns k old x rest)
    → new ≡ codes "\nheap" ++ s.cells
store_same ns k old mid new es e t x rest s =
    (entries_one ns mid es x.store new (codes "\nheap" ++ s.cells) t
    (subst (λ z. ShowsEntries ns z x.store (codes "\nheap" ++ s.cells))
    (append_cancel_left (heading k) s.values mid (sym s.begins ∙ e)) s.store)).1

pub state_no_word : (ns : List Name) (k : ℕ) (old mid new last : List ℕ) (es : List Entry) → old ≡ heading k ++ mid
    → ShowsEntries ns mid es new → IsFrontRead (ShowsWord (codes "\nheap")) new last None
    → IsFrontRead (ShowsState ns k) old last None
state_no_word ns k old mid new last es e t h = λ x rest s. h tt s.cells (store_same ns k old mid new es e t x rest s)

pub state_no_cells : (ns : List Name) (k : ℕ) (old mid new cells left last : List ℕ) (es : List Entry)
    → old ≡ heading k ++ mid → ShowsEntries ns mid es new → new ≡ codes "\nheap" ++ cells
    → IsFrontRead ShowsHeap cells left None → IsFrontRead (ShowsState ns k) old last None
state_no_cells ns k old mid new cells left last es e t f h = λ x rest s.
    h x.heap rest (subst (λ z. ShowsHeap z x.heap rest)
    (append_cancel_left (codes "\nheap") s.cells cells (sym (store_same ns k old mid new es e t x rest s) ∙ f))
    s.heap)

pub state_whole : (ns : List Name) (k : ℕ) (old mid new cells left : List ℕ) (es : List Entry) (h : Heap)
    → old ≡ heading k ++ mid → ShowsEntries ns mid es new → new ≡ codes "\nheap" ++ cells → ShowsHeap cells h left
    → ShowsState ns k old (record { store = es; heap = h }) left
state_whole ns k old mid new cells left es h e t f u =
    record { values = mid; cells = cells; begins = e; store = subst (λ z. ShowsEntries ns mid es z) f t; heap = u }

-- the number of the condition

pub condition_no_end : (old mid new last : List ℕ) (n : ℕ) → old ≡ codes "condition " ++ mid → ShowsNumber mid n new
    → IsFrontRead (ShowsWord (codes "\n")) new last None → IsFrontRead ShowsCondition old last None
condition_no_end old mid new last n e s h = λ m rest u.
    let same : u.0 ≡ mid = append_cancel_left (codes "condition ") u.0 mid (sym u.1 ∙ e) in
    h tt rest ((number_one mid n m new (codes "\n" ++ rest) s
    (subst (λ z. ShowsNumber z m (codes "\n" ++ rest)) same u.2)).1)

pub condition_no_number : (old mid new last : List ℕ) → old ≡ codes "condition " ++ mid
    → IsFrontRead ShowsNumber mid new None → IsFrontRead ShowsCondition old last None
condition_no_number old mid new last e h = λ m rest u.
    h m (codes "\n" ++ rest) (subst (λ z. ShowsNumber z m (codes "\n" ++ rest))
    (append_cancel_left (codes "condition ") u.0 mid (sym u.1 ∙ e)) u.2)

pub condition_no_word : (old new : List ℕ) → IsFrontRead (ShowsWord (codes "condition ")) old new None
    → IsFrontRead ShowsCondition old new None
condition_no_word old new h = λ m rest u. h tt u.0 u.1

-- a heap's next cell comes last
more : (a b : ℕ) → b < a → nat_cmp a b ≡ Greater
more a b h = grind (arith, nat_tests)

abbrev pub AreUpTo : ℕ → List (ℕ × ℕ) → Type 0
AreUpTo low cs = All (λ c. c.0 ≤ low) cs

put_last : (low at to : ℕ) (cs : List (ℕ × ℕ)) → AreUpTo low cs → low < at → put nat_cmp at to cs ≡ cs ++ (at, to) ∷ []
put_last low at to [] below h = refl
put_last low at to (c ∷ cs) below h =
    let first : c.0 ≤ low = All-head (λ (c : ℕ × ℕ). c.0 ≤ low) c cs below in
    rw (more at c.0 (omega (arith, first, h)))
    (ap (λ z. c ∷ z) (put_last low at to cs (All-tail (λ (c : ℕ × ℕ). c.0 ≤ low) c cs below) h))

pub inserted : (low at to : ℕ) (h new : Heap) → AreUpTo low (entries h) → low < at → new ≡ insert h at to
    → entries new ≡ entries h ++ (at, to) ∷ []
inserted low at to h new below less is =
    ap entries is ∙ entries-insert nat_cmp_total h at to ∙ put_last low at to (entries h) below less

-- the loops over names, cells and states

pub store_begin : (ns : List Name) (t : List ℕ) (s : List Entry) → s ≡ []
    → Goes (ShowsEntries ns t) (ShowsEntries ns t) s
store_begin ns t s e = rw e (goes_begin (ShowsEntries ns t))

pub store_more : (ns : List Name) (i : ℕ) (n : Name) (v : ℕ) (now next old : List ℕ) (done new : List Entry)
    → n ≡ get_or ns i n → i < length ns
    → Goes (ShowsEntries (drop i ns) now) (ShowsEntries ns old) done → ShowsValue n now v next
    → new ≡ done ++ entry n v ∷ [] → Goes (ShowsEntries (drop (i + 1) ns) next) (ShowsEntries ns old) new
store_more ns i n v now next old done new is within g s e =
    let front : drop i ns ≡ n ∷ drop (suc i) ns = drop-cons ns i n within ∙ ap (λ z. z ∷ drop (suc i) ns) (sym is) in
    let moved : Goes (ShowsEntries (n ∷ drop (suc i) ns) now) (ShowsEntries ns old) done =
    subst (λ z. Goes (ShowsEntries z now) (ShowsEntries ns old) done) front g in
    let gone =
    goes_more (ShowsEntries (n ∷ drop (suc i) ns) now) (ShowsEntries ns old) (ShowsEntries (drop (suc i) ns) next)
    done (entry n v) moved (entries_turn n (drop (suc i) ns) v now next s) in
    rw (add-one, e) gone

pub store_missing : (ns : List Name) (i : ℕ) (n : Name) (now new old : List ℕ) (done : List Entry) → n ≡ get_or ns i n
    → i < length ns
    → Goes (ShowsEntries (drop i ns) now) (ShowsEntries ns old) done → IsFrontRead (ShowsValue n) now new None
    → IsFrontRead (ShowsEntries ns) old new None
store_missing ns i n now new old done is within g none =
    let front : drop i ns ≡ n ∷ drop (suc i) ns = drop-cons ns i n within ∙ ap (λ z. z ∷ drop (suc i) ns) (sym is) in
    entries_missing n (drop (suc i) ns) ns now old new done
    (subst (λ z. Goes (ShowsEntries z now) (ShowsEntries ns old) done) front g) none

pub store_end : (ns : List Name) (i : ℕ) (now old : List ℕ) (done : List Entry) → length ns ≤ i
    → Goes (ShowsEntries (drop i ns) now) (ShowsEntries ns old) done → ShowsEntries ns old done now
store_end ns i now old done past g =
    entries_end ns now old done
    (subst (λ z. Goes (ShowsEntries z now) (ShowsEntries ns old) done) (drop_of_length-le ns past) g)

-- what a loop over cells keeps
pub record HeapGoes (low : ℕ) (now old : List ℕ) (h : Heap) : Type 0 where
  pub goes : Goes (ShowsCells low now) (ShowsCells 0 old) (entries h)
  pub below : AreUpTo low (entries h)

no_entries : (m : Heap) → len m ≡ 0 → entries m ≡ []
no_entries m e = none (entries m) (sym (len-entries m) ∙ e)
  where
    none : (es : List (ℕ × ℕ)) → length es ≡ 0 → es ≡ []
    none [] e = refl
    none (x ∷ es) e = absurd (omega (arith, e))

pub heap_begin : (t : List ℕ) (h : Heap) → h ≡ empty → HeapGoes 0 t t h
heap_begin t h e =
    let none : entries h ≡ [] = ap entries e ∙ no_entries empty (len-empty nat_cmp ℕ) in
    record { goes = rw none (goes_begin (ShowsCells 0 t)); below = rw none (All-nil (λ (c : ℕ × ℕ). c.0 ≤ 0)) }

pub heap_more : (low at to : ℕ) (now next old : List ℕ) (h new : Heap) → HeapGoes low now old h
    → ((rest : List ℕ) → now ≡ codes "\n" ++ rest → ⊥) → ShowsCellAbove low now (at, to) next → new ≡ insert h at to
    → HeapGoes at next old new
heap_more low at to now next old h new g more_to_come s e =
    let grown : entries new ≡ entries h ++ (at, to) ∷ [] = inserted low at to h new g.below s.above e in
    let gone =
    goes_more (ShowsCells low now) (ShowsCells 0 old) (ShowsCells at next) (entries h) (at, to) g.goes
    (cells_turn low (at, to) now next more_to_come s) in
    let above : low < at = s.above in
    let below : AreUpTo at (entries h ++ (at, to) ∷ []) =
    All-push (λ (c : ℕ × ℕ). c.0 ≤ at) (entries h) (at, to)
    (All-weaker (λ (c : ℕ × ℕ). c.0 ≤ low) (λ (c : ℕ × ℕ). c.0 ≤ at) (λ c l. omega (arith, l, above)) (entries h)
    g.below) (omega arith) in
    record { goes = rw grown gone; below = rw grown below }

pub states_more : (ns : List Name) (k m : ℕ) (x : State) (now next old : List ℕ) (done new : List State)
    → k ≡ length done → Goes (ShowsStates ns k now) (ShowsStates ns 0 old) done
    → ((rest : List ℕ) → now ≡ codes "end\n" ++ rest → ⊥) → ShowsState ns k now x next → new ≡ done ++ x ∷ []
    → m ≡ length new → Goes (ShowsStates ns m next) (ShowsStates ns 0 old) new
states_more ns k m x now next old done new count g more_to_come s e again =
    let gone =
    goes_more (ShowsStates ns k now) (ShowsStates ns 0 old) (ShowsStates ns (suc k) next) done x g
    (states_turn ns k x now next more_to_come s) in
    let number : m ≡ suc k = again ∙ ap length e ∙ omega (arith, length-append done (x ∷ []), count) in
    rw (number, e) gone

-- names

pub names_more : (ns : List Name) (i : ℕ) (n : Name) (v : ℕ) (done new : List Entry) → n ≡ get_or ns i n → i < length ns
    → listed_names done ≡ take i ns → new ≡ done ++ entry n v ∷ [] → listed_names new ≡ take (i + 1) ns
names_more ns i n v done new is within e f =
    ap listed_names f ∙ map-append (λ (x : Entry). x.name) done (entry n v ∷ []) ∙ ap (λ z. z ++ n ∷ []) e
    ∙ ap (λ z. take i ns ++ z ∷ []) is ∙ sym (take_more ns i n within)

pub name_is_new : (ns : List Name) (i : ℕ) (n : Name) → AreDistinctNames ns → n ≡ get_or ns i n → i < length ns
    → Contains (take i ns) n → ⊥
name_is_new ns i n distinct is within (k, low, same) =
    let before : k < i = omega (arith, low, length-take-le i ns (omega (arith, within))) in
    distinct k i n before within (sym (get_or-take i ns k n before) ∙ same ∙ is)

-- whether a word was taken

pub word_missing : (w old new : List ℕ) (o : Option (Unit {0})) → IsFrontRead (ShowsWord w) old new o
    → is_some o ≡ false → IsFrontRead (ShowsWord w) old new None
word_missing w old new None h e = h
word_missing w old new (Some u) h e = absurd cc

pub word_taken : (w old new : List ℕ) (o : Option (Unit {0})) → IsFrontRead (ShowsWord w) old new o → is_some o ≡ true
    → old ≡ w ++ new
word_taken w old new None h e = absurd cc
word_taken w old new (Some u) h e = h

pub missing_stays : (P : Type 0) (o : Option (Unit {0})) → is_some o ≡ false → IfNone o P → P
missing_stays P None e h = h
missing_stays P (Some u) e h = absurd cc
