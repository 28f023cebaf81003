-- Steps under the rule.
use Rattle.std.specs.Prelude.{◌≡◌, ℕ, zero, suc, ◌+◌, ◌-◌, ◌≤◌, List, [], ◌∷◌, length, replicate, Bool, true, false}
use Rattle.std.specs.Prelude.{cond}
use Rattle.std.specs.FinMap.{insert, remove, len, len-insert, len-remove, contains_key}
use Rattle.std.specs.Str.{bytes_eq}
use Rattle.std.proofs.lemmas.Cmp.{nat_cmp_total}
use Rattle.std.proofs.lemmas.List.{length-replicate}
use Rattle.std.proofs.Common.{refl, sym, ◌∙◌, ap, subst, inl, inr, arith}
use Rattle.gh_ast.specs.Plain.{set, new, write, free, call, if, while, return, Statements, no_statements}
use Rattle.gh_ast.specs.Plain.{statement_first, Procedure, Program}
use Rattle.gh_ast.specs.Programs.{Name}
use Rattle.gh_ast.proofs.Declared.{is_one}
use Rattle.gh_assert.specs.Heaps.{Heap}
use Rattle.gh_assert.specs.Meaning.{Store}
use Rattle.gh_assert.specs.Stores.{store_of}
use Rattle.gh_machine.specs.Machine.{Activation, Config, HandsBack, Pops, StepOn}
use Rattle.gh_machine.specs.Choices.{Follows}
use Rattle.gh_machine.specs.Choices as choices
use Rattle.gh_machine.specs.Configs.{beside, starts_of, chosen, IsReturn, Misfits, IsNext, WantsStarts}
use Rattle.gh_machine.specs.declared.step.Choice.{Choice}
use Rattle.gh_machine.specs.declared.step.Next.{Next}
use Rattle.gh_machine.specs.declared.step.Next.TheVariants.{Moved, Ended, Fault, NotAChoice}
use Rattle.gh_run.specs.Rule.{IsLeastFree, IsByRule}
use Rattle.gh_run.specs.Halts.{IsRuledNext}

-- zeros beside names tell 0 for every name
zeros_tell : (ns : List Name) (n : ℕ) (y : Name) → store_of (beside ns (replicate n 0)) y ≡ 0
zeros_tell [] n y = refl
zeros_tell (x ∷ xs) zero y = refl
zeros_tell (x ∷ xs) (suc n) y = first_or_later (bytes_eq x y) refl (zeros_tell xs n y)
  where
    first_or_later : (b : Bool) → bytes_eq x y ≡ b → store_of (beside xs (replicate n 0)) y ≡ 0
        → store_of (beside (x ∷ xs) (replicate (suc n) 0)) y ≡ 0
    first_or_later true e rest = rw e refl
    first_or_later false e rest = rw e rest

-- the choice that is made
pub record IsRuledChoice (h : Heap) (wanted : ℕ) (ch : Choice) : Type 0 where
  pub location : IsLeastFree h ch.location
  pub content : ch.content ≡ 0
  pub starts : ch.starts.items ≡ replicate wanted 0

by_rule : (h : Heap) (wanted : ℕ) (ch : Choice) (p : Procedure) → IsRuledChoice h wanted ch → IsByRule h (chosen ch p)
by_rule h wanted ch p is = record {
  location = is.location;
  content = is.content;
  starts = λ y. ap (λ vs. store_of (beside (starts_of p) vs) y) is.starts ∙ zeros_tell (starts_of p) wanted y;
}

-- a return chooses nothing
return_follows : (rest : Statements) (ch : choices.Choice) (c d : Config) → IsReturn rest → Follows ch rest c d
return_follows (statement_first (return at es) rest) ch c d is = tt
return_follows no_statements ch c d is = absurd is
return_follows (statement_first (set x e) rest) ch c d is = absurd is
return_follows (statement_first (new x) rest) ch c d is = absurd is
return_follows (statement_first (write x e) rest) ch c d is = absurd is
return_follows (statement_first (free x) rest) ch c d is = absurd is
return_follows (statement_first (call xs f es) rest) ch c d is = absurd is
return_follows (statement_first (if t a ca b cb) rest) ch c d is = absurd is
return_follows (statement_first (while at t i b cb) rest) ch c d is = absurd is

-- the rule's choice fits
fits : (P : Program) (rest : Statements) (h : Heap) (wanted : ℕ) (ch : Choice) → IsRuledChoice h wanted ch
    → WantsStarts P rest wanted → Misfits P ch rest h → ⊥
fits P (statement_first (new x) rest) h wanted ch is want misfit =
    elim misfit [ inl null ↦ is.location.not_null null | inr taken ↦ taken is.location.free ]
fits P (statement_first (call xs f es) rest) h wanted ch is (proc, there, count) (q, declared, other) =
    let same : proc ≡ q = is_one P.procedures f.name proc q there declared in
    other (ap length is.starts ∙ length-replicate wanted 0 ∙ count ∙ ap (λ r. length (starts_of r)) same)
fits P no_statements h wanted ch is want misfit = absurd misfit
fits P (statement_first (set x e) rest) h wanted ch is want misfit = absurd misfit
fits P (statement_first (write x e) rest) h wanted ch is want misfit = absurd misfit
fits P (statement_first (free x) rest) h wanted ch is want misfit = absurd misfit
fits P (statement_first (if t a ca b cb) rest) h wanted ch is want misfit = absurd misfit
fits P (statement_first (while at t i b cb) rest) h wanted ch is want misfit = absurd misfit
fits P (statement_first (return at es) rest) h wanted ch is want misfit = absurd misfit

pub ruled_next : (P : Program) (next : Next) (wanted : ℕ) (ch : Choice) (c d : Config) → IsRuledChoice c.heap wanted ch
    → WantsStarts P c.top.rest wanted → IsNext P ch next c d → IsRuledNext P next c d
ruled_next P Moved wanted ch c d is want next =
    ((chosen ch d.top.procedure, by_rule c.heap wanted ch d.top.procedure is, next.0), next.1)
ruled_next P Ended wanted ch c d is want next = elim next [
  | inl ended ↦ inl ended
  | inr (last, st) ↦ inr (
    last,
    (
      chosen ch d.top.procedure,
      by_rule c.heap wanted ch d.top.procedure is,
      (st, return_follows c.top.rest (chosen ch d.top.procedure) c d last.1),
    ),
  )
]
ruled_next P Fault wanted ch c d is want next = next
ruled_next P NotAChoice wanted ch c d is want next = fits P c.top.rest c.heap wanted ch is want next.1

-- a step makes at most one cell

abbrev AtMostOneMore : Heap → Heap → Type 0
AtMostOneMore h k = len k ≤ len h + 1

same_heap : (h k : Heap) → k ≡ h → AtMostOneMore h k
same_heap h k e = subst (λ m. AtMostOneMore h m) (sym e) (omega arith)

by_key : (b : Bool) (n : ℕ) → cond b n (n + 1) ≤ n + 1
by_key true n = omega arith
by_key false n = omega arith

by_gone : (b : Bool) (n : ℕ) → cond b (n - 1) n ≤ n + 1
by_gone true n = omega arith
by_gone false n = omega arith

put_more : (h k : Heap) (l v : ℕ) → k ≡ insert h l v → AtMostOneMore h k
put_more h k l v e =
    subst (λ m. m ≤ len h + 1) (sym (ap len e ∙ len-insert nat_cmp_total h l v)) (by_key (contains_key h l) (len h))

taken_more : (h k : Heap) (l : ℕ) → k ≡ remove h l → AtMostOneMore h k
taken_more h k l e =
    subst (λ m. m ≤ len h + 1) (sym (ap len e ∙ len-remove nat_cmp_total h l)) (by_gone (contains_key h l) (len h))

abbrev heap_of : Config → Heap
heap_of c = c.heap

answers_heap : (rest : Statements) (a : Activation) (below : List Activation) (p : Procedure) (t : Store) (h : Heap)
    (d : Config) → HandsBack rest a below p t h d → d.heap ≡ h
answers_heap (statement_first (call xs f es) rest) a below p t h d (u, gets, to) = ap heap_of to
answers_heap no_statements a below p t h d w = absurd w
answers_heap (statement_first (set x e) rest) a below p t h d w = absurd w
answers_heap (statement_first (new x) rest) a below p t h d w = absurd w
answers_heap (statement_first (write x e) rest) a below p t h d w = absurd w
answers_heap (statement_first (free x) rest) a below p t h d w = absurd w
answers_heap (statement_first (if s x cx y cy) rest) a below p t h d w = absurd w
answers_heap (statement_first (while at s i b cb) rest) a below p t h d w = absurd w
answers_heap (statement_first (return at es) rest) a below p t h d w = absurd w

pops_heap : (below : List Activation) (p : Procedure) (t : Store) (h : Heap) (d : Config) → Pops below p t h d
    → d.heap ≡ h
pops_heap [] p t h d w = absurd w
pops_heap (a ∷ below) p t h d w = answers_heap a.rest a below p t h d w

step_grows : (P : Program) (rest : Statements) (c d : Config) → StepOn P rest c d → AtMostOneMore c.heap d.heap
step_grows P no_statements c d st = same_heap c.heap d.heap (pops_heap c.below c.top.procedure c.top.store c.heap d st)
step_grows P (statement_first (set x e) rest) c d st = same_heap c.heap d.heap (ap heap_of st.4)
step_grows P (statement_first (new x) rest) c d st = put_more c.heap d.heap st.0 st.1 (ap heap_of st.6)
step_grows P (statement_first (write x e) rest) c d st =
    put_more c.heap d.heap (c.top.store x.name) st.0 (ap heap_of st.3)
step_grows P (statement_first (free x) rest) c d st = taken_more c.heap d.heap (c.top.store x.name) (ap heap_of st.1)
step_grows P (statement_first (call xs f es) rest) c d st = same_heap c.heap d.heap (ap heap_of st.6)
step_grows P (statement_first (if t a ca b cb) rest) c d st = same_heap c.heap d.heap (ap heap_of st.2)
step_grows P (statement_first (while at t i b cb) rest) c d st = same_heap c.heap d.heap (ap heap_of st.2)
step_grows P (statement_first (return at es) rest) c d st = elim st.4 [
  | inl (alone, to) ↦ same_heap c.heap d.heap (ap heap_of to)
  | inr pops ↦ same_heap c.heap d.heap (pops_heap c.below c.top.procedure st.1 c.heap d pops)
]

pub next_grows : (P : Program) (next : Next) (ch : Choice) (c d : Config) → IsNext P ch next c d
    → len d.heap ≤ len c.heap + 1
next_grows P Moved ch c d next = step_grows P c.top.rest c d next.0.0
next_grows P Ended ch c d next =
    elim next [
      | inl (e, same) ↦ same_heap c.heap d.heap (ap heap_of same)
      | inr (last, st) ↦ step_grows P c.top.rest c d
          st
    ]
next_grows P Fault ch c d next = same_heap c.heap d.heap (ap heap_of next.1)
next_grows P NotAChoice ch c d next = same_heap c.heap d.heap (ap heap_of next.2)
