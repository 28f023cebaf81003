-- Runs that go on step by step, and where they halt.
use Rattle.std.specs.Prelude.{◌≡◌, ◌⊎◌, ℕ, ◌+◌, ◌<◌, ◌≤◌, List, [], ◌∷◌, ◌++◌, length}
use Rattle.std.proofs.lemmas.List.{length-append}
use Rattle.std.proofs.Common.{refl, sym, ◌∙◌, ap, subst, inl, inr, arith}
use Rattle.gh_ast.specs.Plain.{set, new, write, free, call, if, while, return, Statements, no_statements}
use Rattle.gh_ast.specs.Plain.{statement_first, Program}
use Rattle.gh_machine.specs.Machine.{Config, Pops, StepOn, Step, HasEnded, IsRun, last_of}
use Rattle.gh_machine.specs.Configs.{IsReturn, ReturnsLast}
use Rattle.gh_machine.proofs.Faults.{ends_stop}
use Rattle.gh_run.specs.Rule.{RuledStep, IsRuledRun, IsConcreteRun, SomeReturns, CountsSteps}
use Rattle.gh_machine.specs.declared.step.Next.{Next}
use Rattle.gh_machine.specs.declared.step.Next.TheVariants.{Ended}
use Rattle.gh_run.specs.Halts.{IsRuledNext, Leads, IsReturned}

pub plain_step : (P : Program) (c d : Config) → RuledStep P c d → Step P c d
plain_step P c d (chosen, rule, st) = st.0

pub plain_run : (P : Program) (c : Config) (ds : List Config) → IsRuledRun P c ds → IsRun P c ds
plain_run P c [] r = tt
plain_run P c (d ∷ ds) r = (plain_step P c d r.0, plain_run P d ds r.1)

-- one more configuration at the end

run_more : (P : Program) (c : Config) (ds : List Config) (e : Config) → IsRuledRun P c ds → RuledStep P (last_of c ds) e
    → IsRuledRun P c (ds ++ e ∷ [])
run_more P c [] e r st = (st, tt)
run_more P c (d ∷ ds) e r st = (r.0, run_more P d ds e r.1 st)

last_more : (c : Config) (ds : List Config) (e : Config) → last_of c (ds ++ e ∷ []) ≡ e
last_more c [] e = refl
last_more c (d ∷ ds) e = last_more d ds e

returns_more : (c : Config) (ds : List Config) (e : Config) → SomeReturns c (ds ++ e ∷ [])
    → SomeReturns c ds ⊎ ReturnsLast (last_of c ds)
returns_more c [] e s = elim s [ inl last ↦ inr last | inr none ↦ absurd none ]
returns_more c (d ∷ ds) e s = elim s [
  | inl last ↦ inl (inl last)
  | inr more ↦ elim (returns_more d ds e more) [ inl some ↦ inl (inr some) | inr last ↦ inr last ]
]

returned_more : (c : Config) (ds : List Config) (e : Config) → ReturnsLast (last_of c ds) → SomeReturns c (ds ++ e ∷ [])
returned_more c [] e last = inl last
returned_more c (d ∷ ds) e last = inr (returned_more d ds e last)

count_more : (ds : List Config) (e : Config) (k : ℕ) → length ds ≡ k → length (ds ++ e ∷ []) ≡ k + 1
count_more ds e k count = length-append ds (e ∷ []) ∙ ap (λ n. n + 1) count

pub leads_begin : (P : Program) (c : Config) → Leads P c 0 c
leads_begin P c = record { run = []; ruled = tt; count = refl; last = refl; goes_on = λ s. s }

pub leads_more : (P : Program) (c : Config) (k : ℕ) (d e : Config) → Leads P c k d → RuledStep P d e
    → (ReturnsLast d → ⊥) → Leads P c (k + 1) e
leads_more P c k d e l st goes = record {
  run = l.run ++ e ∷ [];
  ruled = run_more P c l.run e l.ruled (subst (λ x. RuledStep P x e) (sym l.last) st);
  count = count_more l.run e k l.count;
  last = last_more c l.run e;
  goes_on =
      λ s. elim (returns_more c l.run e s)
      [ inl some ↦ l.goes_on some | inr last ↦ goes (subst ReturnsLast l.last last) ];
}

-- how many steps count

counts_all : (c : Config) (ds : List Config) → (SomeReturns c ds → ⊥) → CountsSteps c ds (length ds)
counts_all c [] none = refl
counts_all c (d ∷ ds) none = inr (λ last. none (inl last), length ds, refl, counts_all d ds (λ s. none (inr s)))

counts_but_last : (c : Config) (ds : List Config) (e : Config) → (SomeReturns c ds → ⊥) → ReturnsLast (last_of c ds)
    → CountsSteps c (ds ++ e ∷ []) (length ds)
counts_but_last c [] e none last = inl (last, refl)
counts_but_last c (d ∷ ds) e none last =
    inr (λ now. none (inl now), length ds, refl, counts_but_last d ds e (λ s. none (inr s)) last)

-- a return of the first activation ends the run
ended_by : (P : Program) (rest : Statements) (c d : Config) → c.below ≡ [] → IsReturn rest → StepOn P rest c d
    → HasEnded d
ended_by P (statement_first (return at es) rest) c d alone is st = elim st.4 [
  | inl (below, to) ↦ (ap (λ (x : Config). x.top.rest) to, ap (λ (x : Config). x.below) to ∙ below)
  | inr pops ↦ absurd (subst (λ b. Pops b c.top.procedure st.1 c.heap d) alone pops)
]
ended_by P no_statements c d alone is st = absurd is
ended_by P (statement_first (set x e) rest) c d alone is st = absurd is
ended_by P (statement_first (new x) rest) c d alone is st = absurd is
ended_by P (statement_first (write x e) rest) c d alone is st = absurd is
ended_by P (statement_first (free x) rest) c d alone is st = absurd is
ended_by P (statement_first (call xs f es) rest) c d alone is st = absurd is
ended_by P (statement_first (if t a ca b cb) rest) c d alone is st = absurd is
ended_by P (statement_first (while at t i b cb) rest) c d alone is st = absurd is

-- a run that may not end where it stands

pub record Halts (P : Program) (c : Config) (n k : ℕ) (d : Config) (run : List Config) : Type 0 where
  pub run_is : IsConcreteRun P c n run
  pub counted : CountsSteps c run k
  pub last : last_of c run ≡ d

counted_as : (c : Config) (ds : List Config) (k : ℕ) → length ds ≡ k → (SomeReturns c ds → ⊥) → CountsSteps c ds k
counted_as c ds k count none = subst (CountsSteps c ds) count (counts_all c ds none)

pub halts_at : (P : Program) (c : Config) (n k : ℕ) (d : Config) → (l : Leads P c k d) → k ≤ n
    → (k < n → (e : Config) → RuledStep P d e → ⊥) → Halts P c n k d l.run
halts_at P c n k d l within stands = record {
  run_is = record {
    ruled = l.ruled;
    within = omega (arith, l.count, within);
    whole = λ less e st. stands (omega (arith, less, l.count)) e (subst (λ x. RuledStep P x e) l.last st);
  };
  counted = counted_as c l.run k l.count l.goes_on;
  last = l.last;
}

pub return_ends : (P : Program) (c : Config) (k : ℕ) (e : Config) → IsReturned P c k e → HasEnded e
return_ends P c k e (d, l, last, st) = ended_by P d.top.rest d e last.0 last.1 (plain_step P d e st)

pub halts_returned : (P : Program) (c : Config) (n k : ℕ) (e : Config) → (d : Config) (l : Leads P c k d)
    → ReturnsLast d → RuledStep P d e → k < n → Halts P c n k e (l.run ++ e ∷ [])
halts_returned P c n k e d l last st less = record {
  run_is = record {
    ruled = run_more P c l.run e l.ruled (subst (λ x. RuledStep P x e) (sym l.last) st);
    within = omega (arith, count_more l.run e k l.count, less);
    whole =
        λ more f to. ends_stop P e f (ended_by P d.top.rest d e last.0 last.1 (plain_step P d e st))
        (plain_step P e f (subst (λ x. RuledStep P x f) (last_more c l.run e) to));
  };
  counted =
      subst (CountsSteps c (l.run ++ e ∷ [])) l.count
      (counts_but_last c l.run e l.goes_on (subst ReturnsLast (sym l.last) last));
  last = last_more c l.run e;
}

pub returned_returns : (P : Program) (c : Config) (k : ℕ) (d e : Config) → (l : Leads P c k d) → ReturnsLast d
    → SomeReturns c (l.run ++ e ∷ [])
returned_returns P c k d e l last = returned_more c l.run e (subst ReturnsLast (sym l.last) last)

-- a step that ends the run
pub ended_now : (P : Program) (c : Config) (k : ℕ) (n : Next) (d e : Config) → Leads P c k d → IsRuledNext P n d e
    → n ≡ Ended → (Leads P c k e × HasEnded e) ⊎ IsReturned P c k e
ended_now P c k n d e l how is = at_end (subst (λ m. IsRuledNext P m d e) is how)
  where
    at_end : (HasEnded d × (e ≡ d)) ⊎ (ReturnsLast d × RuledStep P d e)
        → (Leads P c k e × HasEnded e) ⊎ IsReturned P c k e
    at_end (inl (ended, same)) = inl (subst (Leads P c k) (sym same) l, subst HasEnded (sym same) ended)
    at_end (inr (last, st)) = inr (d, l, last, st)
