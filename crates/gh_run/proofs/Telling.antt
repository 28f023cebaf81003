-- State files line by line.
use Rattle.std.specs.Prelude.{◌≡◌, ◌≢◌, ℕ, zero, suc, ◌+◌, ◌-◌, ◌≤◌, List, [], ◌∷◌, ◌++◌, codes, length, map, take}
use Rattle.std.specs.Prelude.{Some, None, All, slice_get}
use Rattle.std.specs.List.{flat_map}
use Rattle.std.specs.Int.{IsInRange}
use Rattle.std.specs.Fmt.{decimal}
use Rattle.std.specs.FinMap.{entries, entries_sorted, empty, len, len-empty, len-entries}
use Rattle.std.specs.Ordering.{nat_cmp}
use Rattle.std.proofs.lemmas.List.{append_assoc, append_cancel_left, length-append}
use Rattle.std.proofs.lemmas.List.Elements.{All-nil, All-cons, All-head, All-tail}
use Rattle.std.proofs.Common.{refl, sym, ◌∙◌, ap, subst, arith}
use Rattle.gh_ast.specs.Plain.{Procedure, Program}
use Rattle.gh_ast.specs.Programs.{Name, name_of, variable_names}
use Rattle.gh_ast.specs.Rules.{IsTyped}
use Rattle.gh_assert.specs.Heaps.{Heap}
use Rattle.gh_assert.specs.Stores.{listed_names}
use Rattle.gh_assert.specs.declared.store.Entry.{Entry}
use Rattle.gh_draw.specs.Drawings.{line, cell_text, heap_line}
use Rattle.gh_draw.specs.Drawn.{entry_text, entries_line, IsValue, IsDrawnCell}
use Rattle.gh_draw.specs.Reading.{IsFrontRead, ShowsWord, ShowsEntries}
use Rattle.gh_draw.proofs.Fronts.{Each, IsNotEnd, decimal_digits, line_one, no_member_of}
use Rattle.gh_draw.proofs.Shown.{are_entries, entries_shown, are_cells, cells_above, all_above}
use Rattle.gh_run.specs.StateFiles.{file_lines, IsOneLine, Tells, AreAsSaid, IsFaultyLine, IsStateError}
use Rattle.gh_run.specs.declared.state_file.StateError.{StateError}
use Rattle.gh_run.specs.declared.state_file.StateError.TheVariants.{Line}
use Rattle.gh_run.specs.Lines.{IsFirstLine, ShowsProcedure, ShowsStore, ShowsCellLine}
use Rattle.gh_run.specs.declared.state_file.Begin.{Begin}
use Rattle.gh_run.proofs.Procedures.{one_procedure}

pub lines_one : (l m a b : List ℕ) → IsOneLine l → IsOneLine m → line l ++ a ≡ line m ++ b → (l ≡ m) × (a ≡ b)
lines_one l m a b p q e = line_one l m a b p q (sym (append_assoc l (10 ∷ []) a) ∙ e ∙ append_assoc m (10 ∷ []) b)

-- texts of lines

apart1 : (a r : List ℕ) → (a ++ []) ++ r ≡ a ++ r
apart1 a r = append_assoc a [] r

apart2 : (a b r : List ℕ) → (a ++ (b ++ [])) ++ r ≡ a ++ (b ++ r)
apart2 a b r = append_assoc a (b ++ []) r ∙ ap (λ z. a ++ z) (apart1 b r)

apart3 : (a b c r : List ℕ) → (a ++ (b ++ (c ++ []))) ++ r ≡ a ++ (b ++ (c ++ r))
apart3 a b c r = append_assoc a (b ++ (c ++ [])) r ∙ ap (λ z. a ++ z) (apart2 b c r)

pub apart4 : (a b c d r : List ℕ) → (a ++ (b ++ (c ++ (d ++ [])))) ++ r ≡ a ++ (b ++ (c ++ (d ++ r)))
apart4 a b c d r = append_assoc a (b ++ (c ++ (d ++ []))) r ∙ ap (λ z. a ++ z) (apart3 b c d r)

no_more : (xs : List ℕ) → xs ++ [] ≡ xs
no_more [] = refl
no_more (x ∷ xs) = ap (λ z. x ∷ z) (no_more xs)

-- a line of cells is one line

each_append : (P : ℕ → Type 0) (xs ys : List ℕ) → Each P xs → Each P ys → Each P (xs ++ ys)
each_append P [] ys first second = second
each_append P (x ∷ xs) ys first second = (first.0, each_append P xs ys first.1 second)

each_weaker : (P Q : ℕ → Type 0) → ((c : ℕ) → P c → Q c) → (xs : List ℕ) → Each P xs → Each Q xs
each_weaker P Q f [] first = tt
each_weaker P Q f (x ∷ xs) first = (f x first.0, each_weaker P Q f xs first.1)

digits_stay : (n : ℕ) → IsValue n → Each IsNotEnd (decimal n)
digits_stay n h =
    each_weaker (IsInRange 48 57) IsNotEnd (λ c r e. absurd (omega (arith, r.0, e))) (decimal n) (decimal_digits n h)

cell_stays : (c : ℕ × ℕ) → IsDrawnCell c → Each IsNotEnd (cell_text c)
cell_stays c d =
    each_append IsNotEnd ((codes " " ++ decimal c.0) ++ codes "->") (decimal c.1)
    (each_append IsNotEnd (codes " " ++ decimal c.0) (codes "->")
    (λ e. absurd (omega (arith, e)), digits_stay c.0 d.place)
    (λ e. absurd (omega (arith, e)), (λ e. absurd (omega (arith, e)), tt)))
    (digits_stay c.1 d.content)

cells_stay : (cs : List (ℕ × ℕ)) → All IsDrawnCell cs → Each IsNotEnd (flat_map cell_text cs)
cells_stay [] p = tt
cells_stay (c ∷ cs) p =
    each_append IsNotEnd (cell_text c) (flat_map cell_text cs) (cell_stays c (All-head IsDrawnCell c cs p))
    (cells_stay cs (All-tail IsDrawnCell c cs p))

pub heap_line_is_one : (h : Heap) → All IsDrawnCell (entries h) → IsOneLine (heap_line h)
heap_line_is_one h p =
    no_member_of (heap_line h)
    (each_append IsNotEnd (codes "heap") (flat_map cell_text (entries h)) (
      λ e. absurd (omega (arith, e)),
      (λ e. absurd (omega (arith, e)), (λ e. absurd (omega (arith, e)), (λ e. absurd (omega (arith, e)), tt))),
    )
    (cells_stay (entries h) p))

end_is_one : IsOneLine (codes "end")
end_is_one =
    no_member_of (codes "end")
    (λ e. absurd (omega (arith, e)), (λ e. absurd (omega (arith, e)), (λ e. absurd (omega (arith, e)), tt)))

-- the parts that are read

pub record IsNamed (P : Program) (text : List ℕ) (n : ℕ) (proc : Procedure) (rest : List ℕ) : Type 0 where
  pub numbered : slice_get P.procedures n ≡ Some proc
  pub first : IsFirstLine text (codes "procedure " ++ name_of proc) rest

pub named : (P : Program) (text : List ℕ) (n : ℕ) (rest : List ℕ) → (s : ShowsProcedure P text n rest)
    → IsNamed P text n s.number.procedure rest
named P text n rest s = record {
  numbered = s.number.numbered;
  first = subst (λ z. IsFirstLine text (codes "procedure " ++ z) rest) (sym s.number.named) s.first;
}

pub record IsListed (names : List Name) (text : List ℕ) (es : List Entry) (rest : List ℕ) : Type 0 where
  pub over : listed_names es ≡ names
  pub values : All (λ e. IsValue e.value) es
  pub first : IsFirstLine text (entries_line es) rest

pub listed : (names : List Name) (text : List ℕ) (es : List Entry) (rest : List ℕ) → ShowsStore names text es rest
    → IsListed names text es rest
listed names text es rest s = parts s.shown
  where
    parts : (mid : List ℕ) × (s.whole ≡ codes "store" ++ mid) × ShowsEntries names mid es []
        → IsListed names text es rest
    parts (mid, begins, shown) =
        let are = are_entries names mid es [] shown in
        let is : s.whole ≡ entries_line es =
        begins ∙ ap (λ z. codes "store" ++ z) (are.text ∙ no_more (flat_map entry_text es)) in
        record { over = are.over; values = are.values; first = subst (λ z. IsFirstLine text z rest) is s.first }

pub shows_entries : (names : List Name) (text : List ℕ) (es : List Entry) (rest : List ℕ) → IsListed names text es rest
    → ShowsEntries names (flat_map entry_text es) es []
shows_entries names text es rest l =
    subst (λ z. ShowsEntries names z es []) (no_more (flat_map entry_text es))
    (subst (λ ns. ShowsEntries ns (flat_map entry_text es ++ []) es []) l.over (entries_shown es [] l.values tt))

pub shows_store : (names : List Name) (text : List ℕ) (es : List Entry) (rest : List ℕ) → IsListed names text es rest
    → ShowsStore names text es rest
shows_store names text es rest l =
    record {
      whole = entries_line es;
      first = l.first;
      shown = (flat_map entry_text es, refl, shows_entries names text es rest l);
    }

pub record IsHeaped (text : List ℕ) (h : Heap) (rest : List ℕ) : Type 0 where
  pub cells : All IsDrawnCell (entries h)
  pub whole : text ≡ line (heap_line h) ++ rest

line_apart : (a b r : List ℕ) → ((a ++ b) ++ (10 ∷ [])) ++ r ≡ a ++ (b ++ 10 ∷ r)
line_apart a b r = simp append_assoc

pub heaped : (text : List ℕ) (h : Heap) (rest : List ℕ) → ShowsCellLine text h rest → IsHeaped text h rest
heaped text h rest (mid, begins, shown) =
    let are = are_cells 0 mid (entries h) rest shown in
    record {
      cells = are.cells;
      whole =
          begins ∙ ap (λ z. codes "heap" ++ z) are.text
          ∙ sym (line_apart (codes "heap") (flat_map cell_text (entries h)) rest);
    }

pub shows_heap : (text : List ℕ) (h : Heap) (rest : List ℕ) → IsHeaped text h rest → ShowsCellLine text h rest
shows_heap text h rest s = (
  flat_map cell_text (entries h) ++ 10 ∷ rest,
  s.whole ∙ line_apart (codes "heap") (flat_map cell_text (entries h)) rest,
  cells_above 0 (entries h) rest (all_above (entries h) s.cells) (entries_sorted h) s.cells,
)

-- a state without values and cells, for the lines that don't speak of them

abbrev entry_zero : Name → Entry
entry_zero n = record { name = n; value = 0 }

zeros_list : (ns : List Name) → listed_names (map entry_zero ns) ≡ ns
zeros_list [] = refl
zeros_list (n ∷ ns) = ap (λ z. n ∷ z) (zeros_list ns)

zeros_fit : (ns : List Name) → All (λ (e : Entry). IsValue e.value) (map entry_zero ns)
zeros_fit [] = All-nil (λ (e : Entry). IsValue e.value)
zeros_fit (n ∷ ns) =
    All-cons (λ (e : Entry). IsValue e.value) (entry_zero n) (map entry_zero ns) (omega arith) (zeros_fit ns)

no_cells : Heap
no_cells = empty

none_drawn : All IsDrawnCell (entries no_cells)
unfolding no_cells
none_drawn = λ k d within. absurd (omega (arith, within, len-entries no_cells, len-empty nat_cmp ℕ))

-- the lines so far are as said

abbrev state : ℕ → List Entry → Heap → Begin
state n es h = record { procedure = n; store = es; heap = h }

pub told1 : (P : Program) (text : List ℕ) (n : ℕ) (proc : Procedure) (r : List ℕ) → IsNamed P text n proc r
    → AreAsSaid P text 1
told1 P text n proc r a =
    let es = map entry_zero (variable_names proc) in (
      state n es no_cells,
      record {
        procedure = proc;
        begins = record { numbered = a.numbered; lists = zeros_list (variable_names proc) };
        values = zeros_fit (variable_names proc);
        cells = none_drawn;
        rest = r;
        whole = a.first.whole ∙ sym (apart1 (line (codes "procedure " ++ name_of proc)) r);
        lines = All-cons IsOneLine (codes "procedure " ++ name_of proc) [] a.first.one (All-nil IsOneLine);
        ends = λ h. absurd (omega (arith, h));
      },
    )

pub told2 : (P : Program) (text : List ℕ) (n : ℕ) (proc : Procedure) (r1 r2 : List ℕ) (es : List Entry)
    → IsNamed P text n proc r1 → IsListed (variable_names proc) r1 es r2 → AreAsSaid P text 2
told2 P text n proc r1 r2 es a b = (
  state n es no_cells,
  record {
    procedure = proc;
    begins = record { numbered = a.numbered; lists = b.over };
    values = b.values;
    cells = none_drawn;
    rest = r2;
    whole =
        a.first.whole ∙ ap (λ z. line (codes "procedure " ++ name_of proc) ++ z) b.first.whole
        ∙ sym (apart2 (line (codes "procedure " ++ name_of proc)) (line (entries_line es)) r2);
    lines =
        All-cons IsOneLine (codes "procedure " ++ name_of proc) (entries_line es ∷ []) a.first.one
        (All-cons IsOneLine (entries_line es) [] b.first.one (All-nil IsOneLine));
    ends = λ h. absurd (omega (arith, h));
  },
)

pub told3 : (P : Program) (text : List ℕ) (n : ℕ) (proc : Procedure) (r1 r2 r3 : List ℕ) (es : List Entry) (h : Heap)
    → IsNamed P text n proc r1 → IsListed (variable_names proc) r1 es r2 → IsHeaped r2 h r3
    → Tells P text 3 (state n es h)
told3 P text n proc r1 r2 r3 es h a b c =
    let L1 = codes "procedure " ++ name_of proc in
    let L2 = entries_line es in
    record {
      procedure = proc;
      begins = record { numbered = a.numbered; lists = b.over };
      values = b.values;
      cells = c.cells;
      rest = r3;
      whole =
          a.first.whole ∙ ap (λ z. line L1 ++ z) (b.first.whole ∙ ap (λ z. line L2 ++ z) c.whole)
          ∙ sym (apart3 (line L1) (line L2) (line (heap_line h)) r3);
      lines =
          All-cons IsOneLine L1 (L2 ∷ heap_line h ∷ []) a.first.one
          (All-cons IsOneLine L2 (heap_line h ∷ []) b.first.one
          (All-cons IsOneLine (heap_line h) [] (heap_line_is_one h c.cells) (All-nil IsOneLine)));
      ends = λ h. absurd (omega (arith, h));
    }

all_lines : (P : Program) (text : List ℕ) (n : ℕ) (proc : Procedure) (r1 r2 r3 : List ℕ) (es : List Entry) (h : Heap)
    → IsNamed P text n proc r1 → IsListed (variable_names proc) r1 es r2 → IsHeaped r2 h r3
    → All IsOneLine (file_lines proc (state n es h))
all_lines P text n proc r1 r2 r3 es h a b c =
    let L1 = codes "procedure " ++ name_of proc in
    let L2 = entries_line es in
    All-cons IsOneLine L1 (L2 ∷ heap_line h ∷ codes "end" ∷ []) a.first.one
    (All-cons IsOneLine L2 (heap_line h ∷ codes "end" ∷ []) b.first.one
    (All-cons IsOneLine (heap_line h) (codes "end" ∷ []) (heap_line_is_one h c.cells)
    (All-cons IsOneLine (codes "end") [] end_is_one (All-nil IsOneLine))))

all_text : (P : Program) (text : List ℕ) (n : ℕ) (proc : Procedure) (r1 r2 r3 r4 : List ℕ) (es : List Entry) (h : Heap)
    → IsNamed P text n proc r1 → IsListed (variable_names proc) r1 es r2 → IsHeaped r2 h r3 → r3 ≡ codes "end\n" ++ r4
    → text ≡ flat_map line (file_lines proc (state n es h)) ++ r4
all_text P text n proc r1 r2 r3 r4 es h a b c d =
    let L1 = codes "procedure " ++ name_of proc in
    let L2 = entries_line es in
    a.first.whole ∙ ap (λ z. line L1 ++ z)
    (b.first.whole ∙ ap (λ z. line L2 ++ z) (c.whole ∙ ap (λ z. line (heap_line h) ++ z) d))
    ∙ sym (apart4 (line L1) (line L2) (line (heap_line h)) (line (codes "end")) r4)

pub told4 : (P : Program) (text : List ℕ) (n : ℕ) (proc : Procedure) (r1 r2 r3 r4 : List ℕ) (es : List Entry) (h : Heap)
    → IsNamed P text n proc r1 → IsListed (variable_names proc) r1 es r2 → IsHeaped r2 h r3 → r3 ≡ codes "end\n" ++ r4
    → Tells P text 4 (state n es h)
told4 P text n proc r1 r2 r3 r4 es h a b c d = record {
  procedure = proc;
  begins = record { numbered = a.numbered; lists = b.over };
  values = b.values;
  cells = c.cells;
  rest = r4;
  whole = all_text P text n proc r1 r2 r3 r4 es h a b c d;
  lines = all_lines P text n proc r1 r2 r3 es h a b c;
  ends = λ h. absurd (omega (arith, h));
}

pub told5 : (P : Program) (text : List ℕ) (n : ℕ) (proc : Procedure) (r1 r2 r3 r4 : List ℕ) (es : List Entry) (h : Heap)
    → IsNamed P text n proc r1 → IsListed (variable_names proc) r1 es r2 → IsHeaped r2 h r3 → r3 ≡ codes "end\n" ++ r4
    → r4 ≡ [] → Tells P text 5 (state n es h)
told5 P text n proc r1 r2 r3 r4 es h a b c d e = record {
  procedure = proc;
  begins = record { numbered = a.numbered; lists = b.over };
  values = b.values;
  cells = c.cells;
  rest = r4;
  whole = all_text P text n proc r1 r2 r3 r4 es h a b c d;
  lines = all_lines P text n proc r1 r2 r3 es h a b c;
  ends = λ _. e;
}

-- fewer lines

front : (ls : List (List ℕ)) (k : ℕ) (rest : List ℕ)
    → (r : List ℕ) × (flat_map line (take (suc k) ls) ++ rest ≡ flat_map line (take k ls) ++ r)
front ls zero rest = (flat_map line (take 1 ls) ++ rest, refl)
front [] (suc k) rest = (rest, refl)
front (l ∷ ls) (suc k) rest = more (front ls k rest)
  where
    more : (r : List ℕ) × (flat_map line (take (suc k) ls) ++ rest ≡ flat_map line (take k ls) ++ r)
        → (r : List ℕ) × (flat_map line (take (suc (suc k)) (l ∷ ls)) ++ rest
        ≡ flat_map line (take (suc k) (l ∷ ls)) ++ r)
    more (r, e) = (
      r,
      append_assoc (line l) (flat_map line (take (suc k) ls)) rest ∙ ap (λ z. line l ++ z) e
          ∙ sym (append_assoc (line l) (flat_map line (take k ls)) r),
    )

ones : (ls : List (List ℕ)) (k : ℕ) → All IsOneLine (take (suc k) ls) → All IsOneLine (take k ls)
ones ls zero p = All-nil IsOneLine
ones [] (suc k) p = All-nil IsOneLine
ones (l ∷ ls) (suc k) p =
    All-cons IsOneLine l (take k ls) (All-head IsOneLine l (take (suc k) ls) p)
    (ones ls k (All-tail IsOneLine l (take (suc k) ls) p))

fewer : (P : Program) (text : List ℕ) (k : ℕ) (b : Begin) → k ≤ 4 → Tells P text (suc k) b → Tells P text k b
fewer P text k b few t =
    let shorter = front (file_lines t.procedure b) k t.rest in
    record {
      procedure = t.procedure;
      begins = t.begins;
      values = t.values;
      cells = t.cells;
      rest = shorter.0;
      whole = t.whole ∙ shorter.1;
      lines = ones (file_lines t.procedure b) k t.lines;
      ends = λ h. absurd (omega (arith, few, h));
    }

fewer_by : (P : Program) (text : List ℕ) (j k : ℕ) (b : Begin) → j + k ≤ 5 → Tells P text (j + k) b → Tells P text k b
fewer_by P text zero k b few t = let e : 0 + k ≡ k = omega arith in subst (λ m. Tells P text m b) e t
fewer_by P text (suc j) k b few t =
    let e : suc j + k ≡ suc (j + k) = omega arith in
    fewer_by P text j k b (omega (arith, few))
    (fewer P text (j + k) b (omega (arith, few)) (subst (λ m. Tells P text m b) e t))

pub as_said : (P : Program) (text : List ℕ) (k m : ℕ) → k ≤ m → m ≤ 5 → AreAsSaid P text m → AreAsSaid P text k
as_said P text k m less few (b, t) =
    let e : m ≡ (m - k) + k = omega (arith, less) in
    (b, fewer_by P text (m - k) k b (omega (arith, less, few)) (subst (λ j. Tells P text j b) e t))

-- the first line that isn't as said

pub faulty1 : (P : Program) (text left : List ℕ) → IsFrontRead (ShowsProcedure P) text left None → IsFaultyLine P text 1
faulty1 P text left none = record {
  low = omega arith;
  before = λ k low less. absurd (omega (arith, low, less));
  here = λ (b, t).
      let L1 = codes "procedure " ++ name_of t.procedure in
      none b.procedure t.rest (record {
        name = name_of t.procedure;
        first = record { whole = t.whole ∙ apart1 (line L1) t.rest; one = All-head IsOneLine L1 [] t.lines };
        number = record { procedure = t.procedure; numbered = t.begins.numbered; named = refl };
      });
}

-- what is told begins with the procedure that is read
pub record IsSameStart (P : Program) (proc q : Procedure) (r more : List ℕ) : Type 0 where
  pub procedure : q ≡ proc
  pub rest : r ≡ more

pub same_start : (P : Program) (text : List ℕ) (n m : ℕ) (proc q : Procedure) (r more : List ℕ) → IsTyped P
    → IsNamed P text n proc r → slice_get P.procedures m ≡ Some q
    → text ≡ line (codes "procedure " ++ name_of q) ++ more → IsOneLine (codes "procedure " ++ name_of q)
    → IsSameStart P proc q r more
same_start P text n m proc q r more typed a there whole one =
    let both =
    lines_one (codes "procedure " ++ name_of proc) (codes "procedure " ++ name_of q) r more a.first.one one
    (sym a.first.whole ∙ whole) in
    let names : name_of proc ≡ name_of q = append_cancel_left (codes "procedure ") (name_of proc) (name_of q) both.0 in
    record { procedure = one_procedure P typed m n q proc there a.numbered (sym names); rest = both.1 }

pub faulty2 : (P : Program) (text : List ℕ) (n : ℕ) (proc : Procedure) (r left : List ℕ) → IsTyped P
    → IsNamed P text n proc r → IsFrontRead (ShowsStore (variable_names proc)) r left None → IsFaultyLine P text 2
faulty2 P text n proc r left typed a none = record {
  low = omega arith;
  before = λ k low less. as_said P text k 1 (omega (arith, less)) (omega arith) (told1 P text n proc r a);
  here = λ (b, t).
      let L1 = codes "procedure " ++ name_of t.procedure in
      let L2 = entries_line b.store in
      let s =
      same_start P text n b.procedure proc t.procedure r (line L2 ++ t.rest) typed a t.begins.numbered
      (t.whole ∙ apart2 (line L1) (line L2) t.rest) (All-head IsOneLine L1 (L2 ∷ []) t.lines) in
      none b.store t.rest (shows_store (variable_names proc) r b.store t.rest (record {
        over = t.begins.lists ∙ ap variable_names s.procedure;
        values = t.values;
        first = record { whole = s.rest; one = All-head IsOneLine L2 [] (All-tail IsOneLine L1 (L2 ∷ []) t.lines) };
      }));
}

pub faulty3 : (P : Program) (text : List ℕ) (n : ℕ) (proc : Procedure) (r1 r2 left : List ℕ) (es : List Entry)
    → IsTyped P → IsNamed P text n proc r1 → IsListed (variable_names proc) r1 es r2
    → IsFrontRead ShowsCellLine r2 left None → IsFaultyLine P text 3
faulty3 P text n proc r1 r2 left es typed a l none = record {
  low = omega arith;
  before = λ k low less. as_said P text k 2 (omega (arith, less)) (omega arith) (told2 P text n proc r1 r2 es a l);
  here = λ (b, t).
      let L1 = codes "procedure " ++ name_of t.procedure in
      let L2 = entries_line b.store in
      let L3 = heap_line b.heap in
      let s =
      same_start P text n b.procedure proc t.procedure r1 (line L2 ++ (line L3 ++ t.rest)) typed a t.begins.numbered
      (t.whole ∙ apart3 (line L1) (line L2) (line L3) t.rest) (All-head IsOneLine L1 (L2 ∷ L3 ∷ []) t.lines) in
      let one = All-head IsOneLine L2 (L3 ∷ []) (All-tail IsOneLine L1 (L2 ∷ L3 ∷ []) t.lines) in
      let both = lines_one (entries_line es) L2 r2 (line L3 ++ t.rest) l.first.one one (sym l.first.whole ∙ s.rest) in
      none b.heap t.rest (shows_heap r2 b.heap t.rest (record { cells = t.cells; whole = both.1 }));
}

-- what follows the third line
after_third : (P : Program) (text : List ℕ) (n : ℕ) (proc : Procedure) (r1 r2 r3 : List ℕ) (es : List Entry) (h : Heap)
    (b : Begin) (q : Procedure) (more : List ℕ) → IsTyped P → IsNamed P text n proc r1
    → IsListed (variable_names proc) r1 es r2 → IsHeaped r2 h r3
    → slice_get P.procedures b.procedure ≡ Some q → All IsDrawnCell (entries b.heap) → All IsOneLine (file_lines q b)
    → text ≡ flat_map line (file_lines q b) ++ more → r3 ≡ codes "end\n" ++ more
after_third P text n proc r1 r2 r3 es h b q more typed a l c there cells lines whole =
    let L1 = codes "procedure " ++ name_of q in
    let L2 = entries_line b.store in
    let L3 = heap_line b.heap in
    let L4 = codes "end" in
    let s =
    same_start P text n b.procedure proc q r1 (line L2 ++ (line L3 ++ (line L4 ++ more))) typed a there
    (whole ∙ apart4 (line L1) (line L2) (line L3) (line L4) more)
    (All-head IsOneLine L1 (L2 ∷ L3 ∷ L4 ∷ []) lines) in
    let one = All-head IsOneLine L2 (L3 ∷ L4 ∷ []) (All-tail IsOneLine L1 (L2 ∷ L3 ∷ L4 ∷ []) lines) in
    let second =
    lines_one (entries_line es) L2 r2 (line L3 ++ (line L4 ++ more)) l.first.one one (sym l.first.whole ∙ s.rest) in
    let third =
    lines_one (heap_line h) L3 r3 (line L4 ++ more) (heap_line_is_one h c.cells) (heap_line_is_one b.heap cells)
    (sym c.whole ∙ second.1) in
    third.1

pub faulty4 : (P : Program) (text : List ℕ) (n : ℕ) (proc : Procedure) (r1 r2 r3 left : List ℕ) (es : List Entry)
    (h : Heap) → IsTyped P → IsNamed P text n proc r1 → IsListed (variable_names proc) r1 es r2 → IsHeaped r2 h r3
    → IsFrontRead (ShowsWord (codes "end\n")) r3 left None → IsFaultyLine P text 4
faulty4 P text n proc r1 r2 r3 left es h typed a l c none = record {
  low = omega arith;
  before =
      λ k low less. as_said P text k 3 (omega (arith, less)) (omega arith)
      (state n es h, told3 P text n proc r1 r2 r3 es h a l c);
  here = λ (b, t). none tt t.rest
      (after_third P text n proc r1 r2 r3 es h b t.procedure t.rest typed a l c t.begins.numbered t.cells t.lines
      t.whole);
}

pub faulty5 : (P : Program) (text : List ℕ) (n : ℕ) (proc : Procedure) (r1 r2 r3 r4 : List ℕ) (es : List Entry)
    (h : Heap) → IsTyped P → IsNamed P text n proc r1 → IsListed (variable_names proc) r1 es r2 → IsHeaped r2 h r3
    → r3 ≡ codes "end\n" ++ r4 → r4 ≢ [] → IsFaultyLine P text 5
faulty5 P text n proc r1 r2 r3 r4 es h typed a l c d some = record {
  low = omega arith;
  before =
      λ k low less. as_said P text k 4 (omega (arith, less)) (omega arith)
      (state n es h, told4 P text n proc r1 r2 r3 r4 es h a l c d);
  here = λ (b, t).
      let after =
      after_third P text n proc r1 r2 r3 es h b t.procedure t.rest typed a l c t.begins.numbered t.cells t.lines
      t.whole in
      some (append_cancel_left (codes "end\n") r4 t.rest (sym d ∙ after) ∙ t.ends (omega arith));
}

-- a cell takes some bytes

cells_count : (cs : List (ℕ × ℕ)) → length cs ≤ length (flat_map cell_text cs)
cells_count [] = omega arith
cells_count (c ∷ cs) =
    let others = cells_count cs in
    omega (
      arith,
      others,
      length-append (cell_text c) (flat_map cell_text cs),
      length-append ((codes " " ++ decimal c.0) ++ codes "->") (decimal c.1),
      length-append (codes " " ++ decimal c.0) (codes "->"),
      length-append (codes " ") (decimal c.0),
    )

shorter_by : (a t r : List ℕ) → t ≡ a ++ r → length r ≤ length t
shorter_by a t r e = omega (arith, ap length e, length-append a r)

heap_count : (t : List ℕ) (h : Heap) (r : List ℕ) → IsHeaped t h r → len h ≤ length t
heap_count t h r s =
    omega (
      arith,
      len-entries h,
      cells_count (entries h),
      ap length s.whole,
      length-append (line (heap_line h)) r,
      length-append (heap_line h) (10 ∷ []),
      length-append (codes "heap") (flat_map cell_text (entries h)),
    )

pub few_cells : (P : Program) (text : List ℕ) (n : ℕ) (proc : Procedure) (r1 r2 r3 : List ℕ) (es : List Entry)
    (h : Heap) → IsNamed P text n proc r1 → IsListed (variable_names proc) r1 es r2 → IsHeaped r2 h r3
    → len h ≤ length text
few_cells P text n proc r1 r2 r3 es h a b c =
    let first = shorter_by (line (codes "procedure " ++ name_of proc)) text r1 a.first.whole in
    let second = shorter_by (line (entries_line es)) r1 r2 b.first.whole in
    let third = heap_count r2 h r3 c in
    omega (arith, first, second, third)

-- the answers

pub refused : (P : Program) (text : List ℕ) (e : StateError) (n : ℕ) → e ≡ Line n → IsFaultyLine P text n
    → IsStateError P text e
refused P text e n is faulty = subst (IsStateError P text) (sym is) faulty
