-- A step or a run of a part is one beside a frame, and back.
use Rattle.std.specs.Prelude.{◌≡◌, List, [], ◌∷◌, cond, None}
use Rattle.std.specs.FinMap.{get, insert, remove}
use Rattle.std.proofs.Common.{refl, sym, ◌∙◌, ap, subst, inl, inr}
use Rattle.gh_ast.specs.Plain.{set, new, write, free, call, if, while, return, Statements, no_statements}
use Rattle.gh_ast.specs.Plain.{statement_first, Procedure, Program}
use Rattle.gh_ast.specs.Programs.{joined}
use Rattle.gh_ast.proofs.Lists.{member_first, member_later}
use Rattle.gh_assert.specs.Heaps.{Heap, Splits}
use Rattle.gh_assert.specs.Meaning.{Store}
use Rattle.gh_assert.proofs.Cells.{get_put}
use Rattle.gh_assert.proofs.Frames.{in_whole, not_in_frame, put_beside, remove_beside, reads_whole, gives_whole}
use Rattle.gh_assert.proofs.Frames.{outcome_whole}
use Rattle.gh_assert.proofs.Splitting.{whole}
use Rattle.gh_assert.proofs.Proper.{none_both}
use Rattle.gh_machine.specs.Machine.{Activation, Config, starting, continuing, HandsBack, Pops, Step, StepOn, Fault}
use Rattle.gh_machine.specs.Machine.{IsRun}
use Rattle.gh_machine.specs.Framed.{holding, IsWithout, AreWithout}
use Rattle.gh_machine.specs.Laws.{StepsTakeFrames, NeverFaults, RunsKeepFrames}
use Rattle.gh_machine.proofs.Framed.{steps_keep_frames}

-- where the part's heap stays, so does the whole
same_whole : (W K F a e : Heap) → Splits W a F → Splits K e F → e ≡ a → K ≡ W
same_whole W K F a e split after same = whole K W a F (subst (λ h. Splits K h F) same after) split

answers_taken : (rest : Statements) (b : Activation) (bs : List Activation) (p : Procedure) (t : Store) (W K F a : Heap)
    (e : Config) → Splits W a F → Splits K e.heap F → HandsBack rest b bs p t a e
    → HandsBack rest b bs p t W (holding e K)
answers_taken (statement_first (call xs f es) rest) b bs p t W K F a e split after (u, gets, to) =
    let same : K ≡ W = same_whole W K F a e.heap split after (ap (λ z. z.heap) to) in (
      u,
      gets,
      ap (λ z. holding z K) to
          ∙ ap (λ h. record { heap = h; top = record { procedure = b.procedure; store = u; rest = rest }; below = bs })
          same,
    )
answers_taken rest b bs p t W K F a e split after w = absurd w

pops_taken : (bs : List Activation) (p : Procedure) (t : Store) (W K F a : Heap) (e : Config) → Splits W a F
    → Splits K e.heap F → Pops bs p t a e → Pops bs p t W (holding e K)
pops_taken [] p t W K F a e split after w = absurd w
pops_taken (b ∷ bs) p t W K F a e split after w = answers_taken b.rest b bs p t W K F a e split after w

-- the whole goes on as the part does, where the part's heap stays
goes_on : (b e : Config) (t : Store) (rest : Statements) (W K F : Heap) → Splits W b.heap F → Splits K e.heap F
    → e ≡ continuing b t b.heap rest → holding e K ≡ continuing (holding b W) t W rest
goes_on b e t rest W K F split after to =
    ap (λ z. holding z K) to ∙ ap (λ h. continuing (holding b W) t h rest)
    (same_whole W K F b.heap e.heap split after (ap (λ z. z.heap) to))

-- where the part's heap changes as the whole does
goes_along : (b e : Config) (t : Store) (rest : Statements) (W K F a V : Heap) → Splits V a F → Splits K e.heap F
    → e ≡ continuing b t a rest → holding e K ≡ continuing (holding b W) t V rest
goes_along b e t rest W K F a V beside after to =
    ap (λ z. holding z K) to ∙ ap (λ h. continuing (holding b W) t h rest)
    (same_whole V K F a e.heap beside after (ap (λ z. z.heap) to))

taken : (P : Program) (rest : Statements) (b e : Config) (W K F : Heap) → Splits W b.heap F → Splits K e.heap F
    → StepOn P rest b e → StepOn P rest (holding b W) (holding e K)
taken P no_statements b e W K F split after st =
    pops_taken b.below b.top.procedure b.top.store W K F b.heap e split after st
taken P (statement_first (set x r) rest) b e W K F split after (v, t, reads, gets, to) =
    (v, t, reads_whole b.top.store W b.heap F split r v reads, gets, goes_on b e t rest W K F split after to)
taken P (statement_first (new x) rest) b e W K F split after (l, v, t, some, out, gets, to) =
    let beside = put_beside W b.heap F l v split clear in
    (l, v, t, some, none, gets, goes_along b e t rest W K F (insert b.heap l v) (insert W l v) beside after to)
  where
    clear : get F l ≡ None
    clear =
        not_in_frame K (insert b.heap l v) F (subst (λ h. Splits K h F) (ap (λ z. z.heap) to) after) l
        (v, get_put b.heap l v)

    none : get W l ≡ None
    none = none_both (get W l) (get b.heap l) (get F l) (split.union l) out clear
taken P (statement_first (write x r) rest) b e W K F split after (v, reads, there, to) = (
  v,
  reads_whole b.top.store W b.heap F split r v reads,
  (there.0, in_whole W b.heap F split (b.top.store x.name) there.0 there.1),
  goes_along b e b.top.store rest W K F (insert b.heap (b.top.store x.name) v) (insert W (b.top.store x.name) v)
      (put_beside W b.heap F (b.top.store x.name) v split (not_in_frame W b.heap F split (b.top.store x.name) there))
      after to,
)
taken P (statement_first (free x) rest) b e W K F split after (there, to) = (
  (there.0, in_whole W b.heap F split (b.top.store x.name) there.0 there.1),
  goes_along b e b.top.store rest W K F (remove b.heap (b.top.store x.name)) (remove W (b.top.store x.name))
      (remove_beside W b.heap F (b.top.store x.name) split (not_in_frame W b.heap F split (b.top.store x.name) there))
      after to,
)
taken P (statement_first (call xs f es) rest) b e W K F split after (proc, vs, t, decl, gives, params, to) = (
  proc,
  vs,
  t,
  decl,
  gives_whole b.top.store W b.heap F split es vs gives,
  params,
  ap (λ z. holding z K) to ∙ ap (λ h. starting proc t h (b.top ∷ b.below))
      (same_whole W K F b.heap e.heap split after (ap (λ z. z.heap) to)),
)
taken P (statement_first (if test r1 c1 r2 c2) rest) b e W K F split after (way, gives, to) = (
  way,
  outcome_whole b.top.store W b.heap F split test way gives,
  goes_on b e b.top.store (cond way (joined r1 rest) (joined r2 rest)) W K F split after to,
)
taken P (statement_first (while at test inv body close) rest) b e W K F split after (way, gives, to) = (
  way,
  outcome_whole b.top.store W b.heap F split test way gives,
  goes_on b e b.top.store (cond way (joined body (statement_first (while at test inv body close) rest)) rest) W K
      F split after to,
)
taken P (statement_first (return at es) rest) b e W K F split after (vs, t, gives, gets, ends) = (
  vs,
  t,
  gives_whole b.top.store W b.heap F split es vs gives,
  gets,
  elim ends [
    | inl (alone, to) ↦ inl (alone, goes_on b e t no_statements W K F split after to)
    | inr pops ↦ inr (pops_taken b.below b.top.procedure t W K F b.heap e split after pops)
  ],
)

pub steps_take_frames : StepsTakeFrames
steps_take_frames P b e W K F split after st = taken P b.top.rest b e W K F split after st

-- a configuration is determined by what it is without the frame, and its heap
put_on : (F : Heap) (c b : Config) → IsWithout F c b → c ≡ holding b c.heap
put_on F c b (split, same) = ap (λ z. holding z c.heap) (sym same)

runs_on : (P : Program) (F : Heap) (c b : Config) (ds es : List Config) → AreWithout F (c ∷ ds) (b ∷ es) → IsRun P b es
    → IsRun P c ds
runs_on P F c b [] es are run = tt
runs_on P F c b (d ∷ ds) [] are run = absurd are.1
runs_on P F c b (d ∷ ds) (e ∷ es) are run =
    let step : Step P (holding b c.heap) (holding e d.heap) =
    steps_take_frames P b e c.heap d.heap F are.0.0 are.1.0.0 run.0 in (
      subst (λ z. Step P z d) (sym (put_on F c b are.0))
          (subst (λ z. Step P (holding b c.heap) z) (sym (put_on F d e are.1.0)) step),
      runs_on P F d e ds es are.1 run.1,
    )

runs_off : (P : Program) (F : Heap) (c b : Config) (ds : List Config) → IsWithout F c b → NeverFaults P b → IsRun P c ds
    → (es : List Config) × IsRun P b es × AreWithout F (c ∷ ds) (b ∷ es)
runs_off P F c b [] without sound run = ([], tt, (without, tt))
runs_off P F c b (d ∷ ds) without sound run =
    let split : Splits c.heap b.heap F = without.0 in
    let safe : Fault (holding c b.heap) → ⊥ =
    λ fault. sound [] tt b (member_first b []) (subst Fault (sym without.1) fault) in
    let step = steps_keep_frames P c d b.heap F split safe run.0 in
    let first : Step P b (holding d step.0) = subst (λ z. Step P z (holding d step.0)) (sym without.1) step.2 in
    let rest = runs_off P F d (holding d step.0) ds (step.1, refl)
    (λ es r e there. sound (holding d step.0 ∷ es) (first, r) e (member_later b e (holding d step.0 ∷ es) there))
    run.1 in
    (holding d step.0 ∷ rest.0, (first, rest.1), (without, rest.2))

pub runs_keep_frames : RunsKeepFrames
runs_keep_frames = record { off = runs_off; on = runs_on }
