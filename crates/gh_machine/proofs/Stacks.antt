-- A run over a stack is a run of its top over the rest, until the top ends.
use Rattle.std.specs.Prelude.{◌≡◌, ◌⊎◌, List, [], ◌∷◌, ◌++◌, map, cond}
use Rattle.std.specs.FinMap.{insert, remove}
use Rattle.std.proofs.Common.{refl, ◌∙◌, ap, subst, inl, inr}
use Rattle.gh_ast.specs.Plain.{set, new, write, free, call, if, while, return, Statements, no_statements}
use Rattle.gh_ast.specs.Plain.{statement_first, Procedure, Program}
use Rattle.gh_ast.specs.Programs.{joined}
use Rattle.gh_assert.specs.Heaps.{Heap}
use Rattle.gh_assert.specs.Meaning.{Store}
use Rattle.gh_machine.specs.Machine.{Activation, Config, starting, continuing, HandsBack, Pops, Step, StepOn, IsRun}
use Rattle.gh_machine.specs.Machine.{last_of}
use Rattle.gh_machine.specs.Stacks.{onto, IsOver, IsAtEnd}
use Rattle.gh_machine.specs.Laws.{RunsKeepStacks}

over_answers : (b : List Activation) (rest : Statements) (a : Activation) (below : List Activation) (p : Procedure)
    (t : Store) (h : Heap) (d : Config) → HandsBack rest a below p t h d
    → HandsBack rest a (below ++ b) p t h (onto d b)
over_answers b (statement_first (call xs f es) rest) a below p t h d (u, gets, to) = (u, gets, ap (λ z. onto z b) to)
over_answers b rest a below p t h d w = absurd w

over_pops : (b below : List Activation) (p : Procedure) (t : Store) (h : Heap) (d : Config) → Pops below p t h d
    → Pops (below ++ b) p t h (onto d b)
over_pops b [] p t h d w = absurd w
over_pops b (a ∷ below) p t h d w = over_answers b a.rest a below p t h d w

step_over : (P : Program) (b : List Activation) (rest : Statements) (c d : Config) → ((c.below ≡ []) × IsOver rest → ⊥)
    → StepOn P rest c d → StepOn P rest (onto c b) (onto d b)
step_over P b no_statements c d open' st = over_pops b c.below c.top.procedure c.top.store c.heap d st
step_over P b (statement_first (set x e) rest) c d open' (v, t, reads, gets, to) =
    (v, t, reads, gets, ap (λ z. onto z b) to)
step_over P b (statement_first (new x) rest) c d open' (l, v, t, some, out, gets, to) =
    (l, v, t, some, out, gets, ap (λ z. onto z b) to)
step_over P b (statement_first (write x e) rest) c d open' (v, reads, there, to) =
    (v, reads, there, ap (λ z. onto z b) to)
step_over P b (statement_first (free x) rest) c d open' (there, to) = (there, ap (λ z. onto z b) to)
step_over P b (statement_first (call xs f es) rest) c d open' (proc, vs, t, decl, gives, params, to) =
    (proc, vs, t, decl, gives, params, ap (λ z. onto z b) to)
step_over P b (statement_first (if test r1 c1 r2 c2) rest) c d open' (way, gives, to) =
    (way, gives, ap (λ z. onto z b) to)
step_over P b (statement_first (while at test inv body close) rest) c d open' (way, gives, to) =
    (way, gives, ap (λ z. onto z b) to)
step_over P b (statement_first (return at es) rest) c d open' (vs, t, gives, gets, ends) = (
  vs,
  t,
  gives,
  gets,
  elim ends [
    | inl (alone, to) ↦ absurd (open' (alone, tt))
    | inr pops ↦ inr (over_pops b c.below c.top.procedure t c.heap d pops)
  ],
)

under_answers : (b : List Activation) (rest : Statements) (a : Activation) (below : List Activation) (p : Procedure)
    (t : Store) (h : Heap) (e : Config) → HandsBack rest a (below ++ b) p t h e
    → (d : Config) × HandsBack rest a below p t h d × (e ≡ onto d b)
under_answers b (statement_first (call xs f es) rest) a below p t h e (u, gets, to) = (
  record { heap = h; top = record { procedure = a.procedure; store = u; rest = rest }; below = below },
  (u, gets, refl),
  to,
)
under_answers b rest a below p t h e w = absurd w

under_pops : (b below : List Activation) (p : Procedure) (t : Store) (h : Heap) (e : Config) → (below ≡ [] → ⊥)
    → Pops (below ++ b) p t h e → (d : Config) × Pops below p t h d × (e ≡ onto d b)
under_pops b [] p t h e some w = absurd (some refl)
under_pops b (a ∷ below) p t h e some w = under_answers b a.rest a below p t h e w

none_above : (b below : List Activation) → below ++ b ≡ [] → below ≡ []
none_above b [] e = refl
none_above b (a ∷ below) e = absurd cc

step_under : (P : Program) (b : List Activation) (rest : Statements) (c e : Config) → ((c.below ≡ []) × IsOver rest → ⊥)
    → StepOn P rest (onto c b) e → (d : Config) × StepOn P rest c d × (e ≡ onto d b)
step_under P b no_statements c e open' st =
    under_pops b c.below c.top.procedure c.top.store c.heap e (λ none. open' (none, tt)) st
step_under P b (statement_first (set x r) rest) c e open' (v, t, reads, gets, to) =
    (continuing c t c.heap rest, (v, t, reads, gets, refl), to)
step_under P b (statement_first (new x) rest) c e open' (l, v, t, some, out, gets, to) =
    (continuing c t (insert c.heap l v) rest, (l, v, t, some, out, gets, refl), to)
step_under P b (statement_first (write x r) rest) c e open' (v, reads, there, to) =
    (continuing c c.top.store (insert c.heap (c.top.store x.name) v) rest, (v, reads, there, refl), to)
step_under P b (statement_first (free x) rest) c e open' (there, to) =
    (continuing c c.top.store (remove c.heap (c.top.store x.name)) rest, (there, refl), to)
step_under P b (statement_first (call xs f es) rest) c e open' (proc, vs, t, decl, gives, params, to) =
    (starting proc t c.heap (c.top ∷ c.below), (proc, vs, t, decl, gives, params, refl), to)
step_under P b (statement_first (if test r1 c1 r2 c2) rest) c e open' (way, gives, to) =
    (continuing c c.top.store c.heap (cond way (joined r1 rest) (joined r2 rest)), (way, gives, refl), to)
step_under P b (statement_first (while at test inv body close) rest) c e open' (way, gives, to) = (
  continuing c c.top.store c.heap
      (cond way (joined body (statement_first (while at test inv body close) rest)) rest),
  (way, gives, refl),
  to,
)
step_under P b (statement_first (return at es) rest) c e open' (vs, t, gives, gets, ends) = elim ends [
  | inl (alone, to) ↦ absurd (open' (none_above b c.below alone, tt))
  | inr pops ↦ let w = under_pops b c.below c.top.procedure t c.heap e (λ none. open' (none, tt)) pops in
      (w.0, (vs, t, gives, gets, inr w.1), w.2)
]

over_or_not : (below : List Activation) (rest : Statements)
    → ((below ≡ []) × IsOver rest) ⊎ ((below ≡ []) × IsOver rest → ⊥)
over_or_not (a ∷ below) rest = inr (λ w. let e : a ∷ below ≡ [] = w.0 in absurd cc)
over_or_not [] no_statements = inl (refl, tt)
over_or_not [] (statement_first (return at es) rest) = inl (refl, tt)
over_or_not [] rest = inr (λ w. w.1)

over : (P : Program) (b : List Activation) (c d : Config) → (IsAtEnd c → ⊥) → Step P c d → Step P (onto c b) (onto d b)
over P b c d open' st = step_over P b c.top.rest c d open' st

under : (P : Program) (b : List Activation) (c e : Config) → (IsAtEnd c → ⊥) → Step P (onto c b) e
    → (d : Config) × Step P c d × (e ≡ onto d b)
under P b c e open' st = step_under P b c.top.rest c e open' st

-- a run over a stack, and what of it is the top's own
abbrev Parted : Program → List Activation → Config → List Config → Type 0
Parted P b c es =
    (ds : List Config) × (rest : List Config) × IsRun P c ds × (es ≡ map (λ d. onto d b) ds ++ rest)
    × ((rest ≡ []) ⊎ IsAtEnd (last_of c ds))

runs : (P : Program) (b : List Activation) (c : Config) (es : List Config) → IsRun P (onto c b) es → Parted P b c es
runs P b c [] run = ([], [], tt, refl, inl refl)
runs P b c (e ∷ es) run = elim (over_or_not c.below c.top.rest) [
  | inl end ↦ ([], e ∷ es, tt, refl, inr end)
  | inr open' ↦
      let s = under P b c e open' run.0 in
      let more = runs P b s.0 es (subst (λ z. IsRun P z es) s.2 run.1) in
      (s.0 ∷ more.0, more.1, (s.1, more.2), ap (λ z. z ∷ es) s.2 ∙ ap (λ zs. onto s.0 b ∷ zs) more.3, more.4)
]

pub runs_keep_stacks : RunsKeepStacks
runs_keep_stacks = record { over = over; under = under; runs = runs }
