-- A text is a state file of one state, or has one first line that isn't as said.
use Rattle.std.specs.Prelude.{◌≡◌, ◌≢◌, ◌⊎◌, ℕ, ◌<◌, ◌≤◌, List, [], ◌∷◌, ◌++◌, codes, take, All}
use Rattle.std.specs.List.{flat_map}
use Rattle.std.proofs.lemmas.List.{append_cancel_left, take_all}
use Rattle.std.proofs.lemmas.List.Elements.{All-head, All-tail}
use Rattle.std.proofs.lemmas.Bool.{cases_eq}
use Rattle.std.proofs.Common.{refl, sym, ◌∙◌, ap, subst, inl, inr, arith}
use Rattle.gh_ast.specs.Plain.{Procedure, Program}
use Rattle.gh_ast.specs.Programs.{Name, name_of, variable_names}
use Rattle.gh_ast.specs.Rules.{IsTyped}
use Rattle.gh_draw.specs.Drawings.{line, heap_line}
use Rattle.gh_draw.specs.Drawn.{entry_text, entries_line}
use Rattle.gh_assert.specs.declared.store.Entry.{Entry}
use Rattle.gh_draw.specs.Reading.{ShowsEntries, ShowsHeap}
use Rattle.gh_draw.proofs.Fronts.{after_one, entries_one, heap_one}
use Rattle.gh_run.specs.StateFiles.{file_lines, IsOneLine, Tells, IsStateFile, IsFaultyLine}
use Rattle.gh_run.specs.Laws.{StateFilesAreOne}
use Rattle.gh_run.specs.declared.state_file.Begin.{Begin}
use Rattle.gh_run.proofs.Procedures.{one_number}
use Rattle.gh_run.proofs.Telling.{lines_one, apart4, IsNamed, IsListed, IsHeaped, shows_entries, shows_heap, same_start}
use Rattle.gh_run.proofs.Telling.{as_said}

-- the lines of a state file, one after the other
record Parts (P : Program) (text : List ℕ) (b : Begin) (proc : Procedure) (r1 r2 r3 : List ℕ) : Type 0 where
  first : IsNamed P text b.procedure proc r1
  second : IsListed (variable_names proc) r1 b.store r2
  third : IsHeaped r2 b.heap r3

abbrev after_second : Begin → List ℕ → List ℕ
after_second b rest = line (heap_line b.heap) ++ (line (codes "end") ++ rest)

abbrev after_first : Begin → List ℕ → List ℕ
after_first b rest = line (entries_line b.store) ++ after_second b rest

parts_of : (P : Program) (text : List ℕ) (b : Begin) → (t : IsStateFile P text b)
    → Parts P text b t.procedure (after_first b t.rest) (after_second b t.rest) (line (codes "end") ++ t.rest)
parts_of P text b t =
    let L1 = codes "procedure " ++ name_of t.procedure in
    let L2 = entries_line b.store in
    let L3 = heap_line b.heap in
    let L4 = codes "end" in
    record {
      first = record {
        numbered = t.begins.numbered;
        first = record {
          whole = t.whole ∙ apart4 (line L1) (line L2) (line L3) (line L4) t.rest;
          one = All-head IsOneLine L1 (L2 ∷ L3 ∷ L4 ∷ []) t.lines;
        };
      };
      second = record {
        over = t.begins.lists;
        values = t.values;
        first = record {
          whole = refl;
          one = All-head IsOneLine L2 (L3 ∷ L4 ∷ []) (All-tail IsOneLine L1 (L2 ∷ L3 ∷ L4 ∷ []) t.lines);
        };
      };
      third = record { cells = t.cells; whole = refl };
    }

one_store : (ns : List Name) (r x y : List ℕ) (es fs : List Entry) → IsListed ns r es x → IsListed ns r fs y
    → (es ≡ fs) × (x ≡ y)
one_store ns r x y es fs a b =
    let both =
    lines_one (entries_line es) (entries_line fs) x y a.first.one b.first.one (sym a.first.whole ∙ b.first.whole) in
    let texts : flat_map entry_text es ≡ flat_map entry_text fs =
    append_cancel_left (codes "store") (flat_map entry_text es) (flat_map entry_text fs) both.0 in
    let shown = subst (λ z. ShowsEntries ns z es []) texts (shows_entries ns r es x a) in
    ((entries_one ns (flat_map entry_text fs) es fs [] [] shown (shows_entries ns r fs y b)).0, both.1)

record AreOne (b c : Begin) : Type 0 where
  number : b.procedure ≡ c.procedure
  store : b.store ≡ c.store
  heap : b.heap ≡ c.heap

are_one : (P : Program) (text : List ℕ) (b c : Begin) (proc q : Procedure) (r1 r2 r3 s1 s2 s3 : List ℕ) → IsTyped P
    → Parts P text b proc r1 r2 r3 → Parts P text c q s1 s2 s3 → AreOne b c
are_one P text b c proc q r1 r2 r3 s1 s2 s3 typed x y =
    let start =
    same_start P text b.procedure c.procedure proc q r1 s1 typed x.first y.first.numbered y.first.first.whole
    y.first.first.one in
    let names : name_of proc ≡ name_of q = ap name_of (sym start.procedure) in
    let second : IsListed (variable_names q) s1 b.store r2 =
    subst (λ z. IsListed (variable_names q) z b.store r2) start.rest
    (subst (λ z. IsListed (variable_names z) r1 b.store r2) (sym start.procedure) x.second) in
    let stores = one_store (variable_names q) s1 r2 s2 b.store c.store second y.second in
    let third : IsHeaped s2 b.heap r3 = subst (λ z. IsHeaped z b.heap r3) stores.1 x.third in
    let heaps =
    after_one (codes "heap") ShowsHeap heap_one s2 b.heap c.heap r3 s3 (shows_heap s2 b.heap r3 third)
    (shows_heap s2 c.heap s3 y.third) in
    record {
      number = one_number P typed b.procedure c.procedure proc q x.first.numbered y.first.numbered names;
      store = stores.0;
      heap = heaps.0;
    }

state_one : (P : Program) (text : List ℕ) (b c : Begin) → IsTyped P → IsStateFile P text b → IsStateFile P text c
    → b ≡ c
state_one P text b c typed s t =
    let one =
    are_one P text b c s.procedure t.procedure (after_first b s.rest) (after_second b s.rest)
    (line (codes "end") ++ s.rest) (after_first c t.rest) (after_second c t.rest) (line (codes "end") ++ t.rest)
    typed (parts_of P text b s) (parts_of P text c t) in
    λ i. record { procedure = one.number i; store = one.store i; heap = one.heap i }

apart : (i j : ℕ) → i ≢ j → (i < j) ⊎ (j < i)
apart i j other = grind arith

line_one : (P : Program) (text : List ℕ) (n m : ℕ) → IsFaultyLine P text n → IsFaultyLine P text m → n ≡ m
line_one P text n m a b =
    elim (cases_eq n m) [
      | inl same ↦ same
      | inr other ↦ absurd
          (elim (apart n m other) [ inl less ↦ a.here (b.before n a.low less) | inr more ↦ b.here (a.before m b.low more) ])
    ]

-- past the fourth line nothing is asked but that nothing follows
more_lines : (P : Program) (text : List ℕ) (b : Begin) (n : ℕ) → 5 ≤ n → Tells P text 5 b → Tells P text n b
more_lines P text b n high t =
    let ls = file_lines t.procedure b in
    let e : take n ls ≡ ls = take_all n ls (omega (arith, high)) in
    record {
      procedure = t.procedure;
      begins = t.begins;
      values = t.values;
      cells = t.cells;
      rest = t.rest;
      whole = subst (λ ms. text ≡ flat_map line ms ++ t.rest) (sym e) t.whole;
      lines = subst (All IsOneLine) (sym e) t.lines;
      ends = λ _. t.ends (omega arith);
    }

order : (m n : ℕ) → (m ≤ n) ⊎ (n < m)
order m n = grind arith

not_both : (P : Program) (text : List ℕ) (b : Begin) (n : ℕ) → IsStateFile P text b → IsFaultyLine P text n → ⊥
not_both P text b n t f =
    elim (order 5 n) [
      | inl high ↦ f.here (b, more_lines P text b n high t)
      | inr low ↦ f.here
          (as_said P text n 5 (omega (arith, low)) (omega arith) (b, t))
    ]

pub state_files_are_one : StateFilesAreOne
state_files_are_one = record { state = state_one; line = line_one; not_both = not_both }
