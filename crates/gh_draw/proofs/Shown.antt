-- A text is shown part by part exactly where it is the text of a drawing.
use Rattle.std.specs.Prelude.{◌≡◌, ◌≢◌, ℕ, suc, ◌-◌, ◌<◌, List, [], ◌∷◌, ◌++◌, codes, length, T, true, false, Bool}
use Rattle.std.specs.Prelude.{◌&&◌, All, slice_get, Some}
use Rattle.std.specs.List.{flat_map}
use Rattle.std.specs.Ordering.{is_lt, nat_cmp}
use Rattle.std.specs.Fmt.{decimal}
use Rattle.std.specs.FinMap.{entries, entries_sorted, is_sorted}
use Rattle.std.specs.FinMap.Entries.{below_all}
use Rattle.std.proofs.Common.{refl, sym, ◌∙◌, ap, subst, arith, Ordering, Less, Equal, Greater}
use Rattle.std.proofs.lemmas.Bool.Decides.{nat_tests}
use Rattle.std.proofs.lemmas.List.{append_assoc, length-append}
use Rattle.std.proofs.lemmas.List.Elements.{All-cons, All-head, All-tail, All-nil}
use Rattle.gh_ast.specs.Plain.{Procedure, Program}
use Rattle.gh_ast.specs.Programs.{Name, variable_names}
use Rattle.gh_ast.proofs.Lists.{one_value}
use Rattle.gh_assert.specs.declared.store.Entry.{Entry}
use Rattle.gh_assert.specs.Stores.{listed_names}
use Rattle.gh_trace.specs.declared.state.State.{State}
use Rattle.gh_path.specs.Conditions.{Condition, conditions, IsOf}
use Rattle.gh_draw.specs.Drawings.{line, cell_text}
use Rattle.gh_draw.specs.Drawn.{entry_text, kept_text, kept_texts, IsValue, IsDrawnCell, IsDrawnState, IsFileOf}
use Rattle.gh_draw.specs.Reading.{After, NoDigitFirst, ShowsNumber, ShowsValue, ShowsEntries, ShowsCell, ShowsCellAbove}
use Rattle.gh_draw.specs.Reading.{ShowsCells, ShowsState, ShowsStates, ShowsCondition, ShowsTrace, Skips, heading}
use Rattle.gh_draw.proofs.Fronts.{entry, states_one, condition_one, skips_one}

no_digit : (c : ℕ) (cs : List ℕ) → c < 48 → NoDigitFirst (c ∷ cs)
no_digit c cs h r = absurd (omega (arith, r.0, h))

-- entries

entry_apart : (n d f r : List ℕ) → ((((32 ∷ n) ++ (61 ∷ [])) ++ d) ++ f) ++ r ≡ 32 ∷ (n ++ (61 ∷ (d ++ (f ++ r))))
entry_apart n d f r = simp append_assoc

after_entries : (es : List Entry) (rest : List ℕ) → NoDigitFirst rest → NoDigitFirst (flat_map entry_text es ++ rest)
after_entries [] rest h = h
after_entries (e ∷ es) rest h = λ r. absurd (omega (arith, r.0))

pub entries_shown : (es : List Entry) (rest : List ℕ) → All (λ e. IsValue e.value) es → NoDigitFirst rest
    → ShowsEntries (listed_names es) (flat_map entry_text es ++ rest) es rest
entries_shown [] rest p h = (refl, refl)
entries_shown (e ∷ es) rest p h =
    let F = flat_map entry_text es in
    let number : ShowsNumber (decimal e.value ++ (F ++ rest)) e.value (F ++ rest) =
    record {
      fits = All-head (λ (x : Entry). IsValue x.value) e es p;
      shown = refl;
      ends = after_entries es rest h;
    } in
    let value : ShowsValue e.name (flat_map entry_text (e ∷ es) ++ rest) e.value (F ++ rest) = (
      e.name ++ (61 ∷ (decimal e.value ++ (F ++ rest))),
      entry_apart e.name (decimal e.value) F rest,
      (61 ∷ (decimal e.value ++ (F ++ rest)), refl, (decimal e.value ++ (F ++ rest), refl, number)),
    ) in
    (e.value, F ++ rest, es, refl, value, entries_shown es rest (All-tail (λ (x : Entry). IsValue x.value) e es p) h)

-- what entries show
pub record AreEntries (ns : List Name) (t : List ℕ) (es : List Entry) (rest : List ℕ) : Type 0 where
  pub over : listed_names es ≡ ns
  pub values : All (λ e. IsValue e.value) es
  pub text : t ≡ flat_map entry_text es ++ rest

value_text : (n : Name) (t mid : List ℕ) (v : ℕ) → ShowsValue n t v mid → (f r : List ℕ) → mid ≡ f ++ r
    → t ≡ (entry_text (entry n v) ++ f) ++ r
value_text n t mid v (a, p, (b, q, (c, r', s))) f r e =
    p ∙ ap (λ z. 32 ∷ z) (q ∙ ap (λ z. n ++ z) (r' ∙ ap (λ z. 61 ∷ z) (s.shown ∙ ap (λ z. decimal v ++ z) e)))
    ∙ sym (entry_apart n (decimal v) f r)

value_fits : (n : Name) (t mid : List ℕ) (v : ℕ) → ShowsValue n t v mid → IsValue v
value_fits n t mid v (a, p, (b, q, (c, r', s))) = s.fits

pub are_entries : (ns : List Name) (t : List ℕ) (es : List Entry) (rest : List ℕ) → ShowsEntries ns t es rest
    → AreEntries ns t es rest
are_entries [] t es rest (p, q) =
    subst (λ z. AreEntries [] t z rest) (sym p)
    (record { over = refl; values = All-nil (λ (x : Entry). IsValue x.value); text = q })
are_entries (n ∷ ns) t es rest (v, mid, fs, is, s, ss) =
    let others = are_entries ns mid fs rest ss in
    subst (λ z. AreEntries (n ∷ ns) t z rest) (sym is) (record {
      over = ap (λ z. n ∷ z) others.over;
      values = All-cons (λ (x : Entry). IsValue x.value) (entry n v) fs (value_fits n t mid v s) others.values;
      text = value_text n t mid v s (flat_map entry_text fs) rest others.text;
    })

-- cells

cell_apart : (d e f r : List ℕ)
    → ((((32 ∷ d) ++ (45 ∷ 62 ∷ [])) ++ e) ++ f) ++ r ≡ 32 ∷ (d ++ (45 ∷ 62 ∷ (e ++ (f ++ r))))
cell_apart d e f r = simp append_assoc

after_cells : (cs : List (ℕ × ℕ)) (rest : List ℕ) → NoDigitFirst (flat_map cell_text cs ++ 10 ∷ rest)
after_cells [] rest = no_digit 10 rest (omega arith)
after_cells (c ∷ cs) rest = λ r. absurd (omega (arith, r.0))

first_of : (a b : Bool) → T (a && b) → T a
first_of true b p = tt
first_of false b p = p

second_of : (a b : Bool) → T (a && b) → T b
second_of true b p = p
second_of false b p = absurd p

less_of : (o : Ordering) → T (is_lt o) → o ≡ Less
less_of Less p = refl
less_of Equal p = absurd p
less_of Greater p = absurd p

lt_of : (a b : ℕ) → nat_cmp a b ≡ Less → a < b
lt_of a b e = grind (arith, nat_tests)

pub cells_above : (low : ℕ) (cs : List (ℕ × ℕ)) (rest : List ℕ) → T (below_all nat_cmp low cs)
    → T (is_sorted nat_cmp cs) → All IsDrawnCell cs → ShowsCells low (flat_map cell_text cs ++ 10 ∷ rest) cs rest
cells_above low [] rest b s p = refl
cells_above low (c ∷ cs) rest b s p =
    let F = flat_map cell_text cs in
    let R : List ℕ = F ++ 10 ∷ rest in
    let drawn = All-head IsDrawnCell c cs p in
    let content : ShowsNumber (decimal c.1 ++ R) c.1 R =
    record { fits = drawn.content; shown = refl; ends = after_cells cs rest } in
    let place : ShowsNumber (decimal c.0 ++ (45 ∷ 62 ∷ (decimal c.1 ++ R))) c.0 (45 ∷ 62 ∷ (decimal c.1 ++ R)) =
    record { fits = drawn.place; shown = refl; ends = λ r. absurd (omega (arith, r.0)) } in
    let cell : ShowsCell (decimal c.0 ++ (45 ∷ 62 ∷ (decimal c.1 ++ R))) c R =
    (45 ∷ 62 ∷ (decimal c.1 ++ R), place, (decimal c.1 ++ R, refl, content)) in
    let above : ShowsCellAbove low (flat_map cell_text (c ∷ cs) ++ 10 ∷ rest) c R = record {
      above = lt_of low c.0 (less_of (nat_cmp low c.0) (first_of _ _ b));
      cell = (
        decimal c.0 ++ (45 ∷ 62 ∷ (decimal c.1 ++ R)),
        cell_apart (decimal c.0) (decimal c.1) F (10 ∷ rest),
        cell,
      );
    } in
    (R, above, cells_above c.0 cs rest (first_of _ _ s) (second_of _ _ s) (All-tail IsDrawnCell c cs p))

-- no cell at null: all places lie above it
pub all_above : (cs : List (ℕ × ℕ)) → All IsDrawnCell cs → T (below_all nat_cmp 0 cs)
all_above [] p = tt
all_above (c ∷ cs) p =
    let drawn = All-head IsDrawnCell c cs p in
    both _ _ (less_from c.0 drawn.not_null) (all_above cs (All-tail IsDrawnCell c cs p))
  where
    both : (a b : Bool) → T a → T b → T (a && b)
    both true b p q = q
    both false b p q = absurd p

    less_from : (n : ℕ) → n ≢ 0 → T (is_lt (nat_cmp 0 n))
    less_from n h = let less : nat_cmp 0 n ≡ Less = compared n h in subst (λ z. T (is_lt z)) (sym less) tt
      where
        compared : (n : ℕ) → n ≢ 0 → nat_cmp 0 n ≡ Less
        compared n h = grind (arith, nat_tests)

pub record AreCells (low : ℕ) (t : List ℕ) (cs : List (ℕ × ℕ)) (rest : List ℕ) : Type 0 where
  pub cells : All IsDrawnCell cs
  pub text : t ≡ flat_map cell_text cs ++ 10 ∷ rest

above_text : (low : ℕ) (t mid : List ℕ) (c : ℕ × ℕ) → ShowsCellAbove low t c mid → (f r : List ℕ) → mid ≡ f ++ r
    → t ≡ (cell_text c ++ f) ++ r
above_text low t mid c s f r e = parts s.cell
  where
    parts : After (codes " ") ShowsCell t c mid → t ≡ (cell_text c ++ f) ++ r
    parts (a, p, (b, n, (d, q, m))) =
        p ∙ ap (λ z. 32 ∷ z) (n.shown
        ∙ ap (λ z. decimal c.0 ++ z) (q ∙ ap (λ z. 45 ∷ 62 ∷ z) (m.shown ∙ ap (λ z. decimal c.1 ++ z) e)))
        ∙ sym (cell_apart (decimal c.0) (decimal c.1) f r)

above_cell : (low : ℕ) (t mid : List ℕ) (c : ℕ × ℕ) → ShowsCellAbove low t c mid → IsDrawnCell c
above_cell low t mid c s = parts s.cell
  where
    parts : After (codes " ") ShowsCell t c mid → IsDrawnCell c
    parts (a, p, (b, n, (d, q, m))) =
        record { not_null = λ e. absurd (omega (arith, s.above, e)); place = n.fits; content = m.fits }

pub are_cells : (low : ℕ) (t : List ℕ) (cs : List (ℕ × ℕ)) (rest : List ℕ) → ShowsCells low t cs rest
    → AreCells low t cs rest
are_cells low t [] rest s = record { cells = All-nil IsDrawnCell; text = s }
are_cells low t (c ∷ cs) rest (mid, s, ss) =
    let others = are_cells c.0 mid cs rest ss in
    record {
      cells = All-cons IsDrawnCell c cs (above_cell low t mid c s) others.cells;
      text = above_text low t mid c s (flat_map cell_text cs) (10 ∷ rest) others.text;
    }

-- states

words_apart : (a n s e h c r : List ℕ)
    → ((a ++ n) ++ (((s ++ e) ++ n) ++ ((h ++ c) ++ n))) ++ r ≡ (a ++ (n ++ s)) ++ (e ++ ((n ++ h) ++ (c ++ (n ++ r))))
words_apart a n s e h c r = simp append_assoc

state_apart : (a e c r : List ℕ)
    → ((a ++ (10 ∷ [])) ++ (((codes "store" ++ e) ++ (10 ∷ [])) ++ ((codes "heap" ++ c) ++ (10 ∷ [])))) ++ r
    ≡ (a ++ codes "\nstore") ++ (e ++ (codes "\nheap" ++ (c ++ (10 ∷ r))))
state_apart a e c r = words_apart a (10 ∷ []) (codes "store") e (codes "heap") c r

state_shown : (ns : List Name) (k : ℕ) (x : State) (rest : List ℕ) → IsDrawnState ns x
    → ShowsState ns k (kept_text k x ++ rest) x rest
state_shown ns k x rest d =
    let E = flat_map entry_text x.store in
    let C = flat_map cell_text (entries x.heap) in
    record {
      values = E ++ (codes "\nheap" ++ (C ++ 10 ∷ rest));
      cells = C ++ 10 ∷ rest;
      begins = state_apart (codes "state " ++ decimal k) E C rest;
      store = subst (λ z. ShowsEntries z (E ++ (codes "\nheap" ++ (C ++ 10 ∷ rest))) x.store
          (codes "\nheap" ++ (C ++ 10 ∷ rest))) d.over
          (entries_shown x.store (codes "\nheap" ++ (C ++ 10 ∷ rest)) d.values (λ r. absurd (omega (arith, r.0))));
      heap = cells_above 0 (entries x.heap) rest (all_above (entries x.heap) d.cells) (entries_sorted x.heap) d.cells;
    }

pub record IsState (ns : List Name) (k : ℕ) (t : List ℕ) (x : State) (rest : List ℕ) : Type 0 where
  pub drawn : IsDrawnState ns x
  pub text : t ≡ kept_text k x ++ rest

is_state : (ns : List Name) (k : ℕ) (t : List ℕ) (x : State) (rest : List ℕ) → ShowsState ns k t x rest
    → IsState ns k t x rest
is_state ns k t x rest s =
    let es = are_entries ns s.values x.store (codes "\nheap" ++ s.cells) s.store in
    let cs = are_cells 0 s.cells (entries x.heap) rest s.heap in
    record {
      drawn = record { over = es.over; values = es.values; cells = cs.cells };
      text = s.begins ∙ ap (λ z. heading k ++ z)
          (es.text ∙ ap (λ z. flat_map entry_text x.store ++ (codes "\nheap" ++ z)) cs.text)
          ∙ sym (state_apart (codes "state " ++ decimal k) (flat_map entry_text x.store)
          (flat_map cell_text (entries x.heap)) rest);
    }

shorter : (a t rest : List ℕ) → t ≡ a ++ rest → 0 < length a → length rest < length t
shorter a t rest e some = omega (arith, ap length e, length-append a rest, some)

pub state_shorter : (ns : List Name) (k : ℕ) (t : List ℕ) (x : State) (rest : List ℕ) → ShowsState ns k t x rest
    → length rest < length t
state_shorter ns k t x rest s = shorter (kept_text k x) t rest (is_state ns k t x rest s).text (omega arith)

pub cell_shorter : (low : ℕ) (t : List ℕ) (c : ℕ × ℕ) (rest : List ℕ) → ShowsCellAbove low t c rest
    → length rest < length t
cell_shorter low t c rest s = shorter (cell_text c ++ []) t rest (above_text low t rest c s [] rest refl) (omega arith)

pub line_shorter : (l t rest : List ℕ) → t ≡ line l ++ rest → length rest < length t
line_shorter l t rest e = shorter (line l) t rest e (omega (arith, length-append l (10 ∷ [])))

states_shown : (ns : List Name) (k : ℕ) (xs : List State) (rest : List ℕ) → All (IsDrawnState ns) xs
    → ShowsStates ns k (kept_texts k xs ++ (codes "end\n" ++ rest)) xs rest
states_shown ns k [] rest p = refl
states_shown ns k (x ∷ xs) rest p =
    let mid : List ℕ = kept_texts (suc k) xs ++ (codes "end\n" ++ rest) in
    let first = state_shown ns k x mid (All-head (IsDrawnState ns) x xs p) in (
      mid,
      subst (λ z. ShowsState ns k z x mid)
          (sym (append_assoc (kept_text k x) (kept_texts (suc k) xs) (codes "end\n" ++ rest))) first,
      states_shown ns (suc k) xs rest (All-tail (IsDrawnState ns) x xs p),
    )

record AreStates (ns : List Name) (k : ℕ) (t : List ℕ) (xs : List State) (rest : List ℕ) : Type 0 where
  drawn : All (IsDrawnState ns) xs
  text : t ≡ kept_texts k xs ++ (codes "end\n" ++ rest)

are_states : (ns : List Name) (k : ℕ) (t : List ℕ) (xs : List State) (rest : List ℕ) → ShowsStates ns k t xs rest
    → AreStates ns k t xs rest
are_states ns k t [] rest s = record { drawn = All-nil (IsDrawnState ns); text = s }
are_states ns k t (x ∷ xs) rest (mid, s, ss) =
    let first = is_state ns k t x mid s in
    let others = are_states ns (suc k) mid xs rest ss in
    record {
      drawn = All-cons (IsDrawnState ns) x xs first.drawn others.drawn;
      text = first.text ∙ ap (λ z. kept_text k x ++ z) others.text
          ∙ sym (append_assoc (kept_text k x) (kept_texts (suc k) xs) (codes "end\n" ++ rest));
    }

-- the whole drawing

whole_apart : (f d s : List ℕ)
    → f ++ (((codes "drawing\ncondition " ++ d) ++ codes "\n") ++ s ++ codes "end\n")
    ≡ f ++ (codes "drawing\n" ++ (codes "condition " ++ (d ++ (10 ∷ (s ++ codes "end\n")))))
whole_apart f d s = simp append_assoc

-- what a file shows
pub record ShowsFile (P : Program) (t : List ℕ) (n : ℕ) (xs : List State) : Type 0 where
  pub body : List ℕ
  pub states_text : List ℕ
  pub skips : Skips t body
  pub condition : ShowsCondition body n states_text
  pub trace : ShowsTrace P n states_text xs

pub file_shown : (P : Program) (t : List ℕ) (n : ℕ) (xs : List State) → IsFileOf P t n xs → ShowsFile P t n xs
file_shown P t n xs f =
    let S = kept_texts 0 xs ++ codes "end\n" in
    record {
      body = codes "condition " ++ (decimal n ++ (10 ∷ S));
      states_text = S;
      skips = record {
        skipped = f.skipped;
        others = f.others;
        whole = f.whole ∙ whole_apart (flat_map line f.skipped) (decimal n) (kept_texts 0 xs);
      };
      condition = (
        decimal n ++ (10 ∷ S),
        refl,
        record { fits = f.drawn.fits; shown = refl; ends = no_digit 10 S (omega arith) },
      );
      trace = record {
        condition = f.drawn.condition;
        procedure = f.drawn.procedure;
        of = f.drawn.of;
        at = f.drawn.at;
        some = f.drawn.some;
        states = states_shown (variable_names f.drawn.procedure) 0 xs [] f.drawn.states;
      };
    }

pub shown_file : (P : Program) (t : List ℕ) (n : ℕ) (xs : List State) → ShowsFile P t n xs → IsFileOf P t n xs
shown_file P t n xs f = parts f.condition
  where
    all : AreStates (variable_names f.trace.procedure) 0 f.states_text xs []
    all = are_states (variable_names f.trace.procedure) 0 f.states_text xs [] f.trace.states

    parts : ShowsCondition f.body n f.states_text → IsFileOf P t n xs
    parts (mid, proc, s) = record {
      skipped = f.skips.skipped;
      others = f.skips.others;
      whole =
          f.skips.whole ∙ ap (λ z. flat_map line f.skips.skipped ++ (codes "drawing\n" ++ z))
          (proc ∙ ap (λ z. codes "condition " ++ z) (s.shown ∙ ap (λ z. decimal n ++ (10 ∷ z)) all.text))
          ∙ sym (whole_apart (flat_map line f.skips.skipped) (decimal n) (kept_texts 0 xs));
      drawn = record {
        condition = f.trace.condition;
        procedure = f.trace.procedure;
        of = f.trace.of;
        at = f.trace.at;
        fits = s.fits;
        some = f.trace.some;
        states = all.drawn;
      };
    }

-- of one condition one procedure
pub same_procedure : (P : Program) (c d : Condition) (proc q : Procedure) → c ≡ d → IsOf P c proc → IsOf P d q
    → proc ≡ q
same_procedure P c d proc q same of there =
    one_value (slice_get P.procedures d.procedure) proc q (subst (λ (e : Condition). IsOf P e proc) same of) there

pub file_one : (P : Program) (t : List ℕ) (n m : ℕ) (xs ys : List State) → ShowsFile P t n xs → ShowsFile P t m ys
    → (n ≡ m) × (xs ≡ ys)
file_one P t n m xs ys f g =
    let bodies : f.body ≡ g.body = skips_one t f.body g.body f.skips g.skips in
    let numbers =
    condition_one g.body n m f.states_text g.states_text
    (subst (λ z. ShowsCondition z n f.states_text) bodies f.condition) g.condition in
    let same : f.trace.condition ≡ g.trace.condition =
    one_value (slice_get (conditions P) (m - 1)) f.trace.condition g.trace.condition
    (subst (λ z. slice_get (conditions P) (z - 1) ≡ Some f.trace.condition) numbers.0 f.trace.at.1) g.trace.at.1 in
    let procedures : f.trace.procedure ≡ g.trace.procedure =
    same_procedure P f.trace.condition g.trace.condition f.trace.procedure g.trace.procedure same f.trace.of
    g.trace.of in
    let ns = variable_names g.trace.procedure in
    let moved : ShowsStates ns 0 g.states_text xs [] =
    subst (λ z. ShowsStates ns 0 z xs []) numbers.1
    (subst (λ (proc : Procedure). ShowsStates (variable_names proc) 0 f.states_text xs []) procedures
    f.trace.states) in
    (numbers.0, (states_one ns 0 g.states_text xs ys [] [] moved g.trace.states).0)
