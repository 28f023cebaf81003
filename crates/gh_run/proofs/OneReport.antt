-- There is one report.
use Rattle.std.specs.Prelude.{◌≡◌, ◌≢◌, ◌⊎◌, ◌↔◌, ℕ, suc, ◌-◌, ◌<◌, List, [], ◌∷◌, length, get_or, Some, None, Bool}
use Rattle.std.specs.Prelude.{true, false, IsTrue, AllPairs}
use Rattle.std.proofs.lemmas.List.{ext_get_or, length-map, get_or-map, get_or_default}
use Rattle.std.proofs.lemmas.Bool.{cases_eq}
use Rattle.std.proofs.Common.{refl, sym, ◌∙◌, ap, subst, inl, inr, arith}
use Rattle.gh_ast.specs.Plain.{Procedure, Program}
use Rattle.gh_ast.specs.Programs.{Name, variable_names}
use Rattle.gh_ast.specs.Rules.{IsTyped}
use Rattle.gh_ast.proofs.TypedPrograms.{variables_are_distinct}
use Rattle.gh_assert.specs.Heaps.{Heap}
use Rattle.gh_assert.specs.Meaning.{Store}
use Rattle.gh_assert.specs.Walks.{Allocated}
use Rattle.gh_assert.specs.Stores.{listed_names, store_of, AreDistinct}
use Rattle.gh_assert.specs.declared.store.Entry.{Entry}
use Rattle.gh_machine.specs.Machine.{Config, Fault, FaultOn, HasEnded, last_of}
use Rattle.gh_machine.specs.Choices.{Choice, StepBy}
use Rattle.gh_machine.specs.Fits.{ConfigFits}
use Rattle.gh_machine.proofs.Chosen.{steps_are_chosen}
use Rattle.gh_machine.proofs.TypedFits.{typed_fit}
use Rattle.gh_machine.proofs.Progress.{steps_fit}
use Rattle.gh_trace.specs.declared.state.State.{State}
use Rattle.gh_trace.proofs.Listings.{listed_value}
use Rattle.gh_run.specs.StateFiles.{BeginsIn}
use Rattle.gh_run.specs.Rule.{IsLeastFree, IsByRule, RuledStep, IsRuledRun, IsConcreteRun, CountsSteps}
use Rattle.gh_run.specs.Reports.{begun, IsStateOf, ComesTo, IsStopped, IsMet, IsReportOn}
use Rattle.gh_run.specs.Laws.{ReportsAreOne}
use Rattle.gh_run.specs.declared.state_file.Begin.{Begin}
use Rattle.gh_run.specs.declared.simulate.Report.{Report}
use Rattle.gh_run.specs.declared.simulate.Report.TheVariants.{Unmet, Faulted, Ended, Stopped}
use Rattle.gh_run.proofs.Leading.{plain_step}
use Rattle.gh_run.proofs.Procedures.{some_one, member_at}

-- the rule has one choice

not_below : (h : Heap) (l m : ℕ) → IsLeastFree h l → IsLeastFree h m → l < m → ⊥
not_below h l m a b less = taken (b.least l a.not_null less)
  where
    taken : Allocated h l → ⊥
    taken (v, there) = let wrong : Some v ≡ None = sym there ∙ a.free in absurd cc

one_place : (h : Heap) (l m : ℕ) → IsLeastFree h l → IsLeastFree h m → l ≡ m
one_place h l m a b =
    elim (cases_eq l m) [
      | inl same ↦ same
      | inr other ↦ absurd
          (elim (apart l m other) [ inl less ↦ not_below h l m a b less | inr more ↦ not_below h m l b a more ])
    ]
  where
    apart : (i j : ℕ) → i ≢ j → (i < j) ⊎ (j < i)
    apart i j other = grind arith

one_choice : (h : Heap) (a b : Choice) → IsByRule h a → IsByRule h b → a ≡ b
one_choice h a b r s =
    let place = one_place h a.location b.location r.location s.location in
    let content : a.content ≡ b.content = r.content ∙ sym s.content in
    let starts : (y : Name) → a.starts y ≡ b.starts y = λ y. r.starts y ∙ sym (s.starts y) in
    λ i. record { location = place i; content = content i; starts = λ y. starts y i }

one_step : (P : Program) (c d e : Config) → RuledStep P c d → RuledStep P c e → d ≡ e
one_step P c d e (a, r, s) (b, q, t) =
    steps_are_chosen.one_step P b c d e (subst (λ x. StepBy P x c d) (one_choice c.heap a b r q) s) t

-- so there is one run

rest_of : (P : Program) (c d : Config) (n : ℕ) (ds : List Config) → IsConcreteRun P c n (d ∷ ds)
    → IsConcreteRun P d (n - 1) ds
rest_of P c d n ds r = record {
  ruled = r.ruled.1;
  within = omega (arith, r.within);
  whole = λ less. r.whole (omega (arith, less, r.within));
}

none_more : (P : Program) (c e : Config) (n : ℕ) (es : List Config) → IsConcreteRun P c n []
    → IsConcreteRun P c n (e ∷ es) → ⊥
none_more P c e n es r s = r.whole (omega (arith, s.within)) e s.ruled.0

one_run : (P : Program) (c : Config) (n : ℕ) (ds es : List Config) → IsConcreteRun P c n ds → IsConcreteRun P c n es
    → ds ≡ es
one_run P c n [] [] r s = refl
one_run P c n [] (e ∷ es) r s = absurd (none_more P c e n es r s)
one_run P c n (d ∷ ds) [] r s = absurd (none_more P c d n ds s r)
one_run P c n (d ∷ ds) (e ∷ es) r s =
    let first : d ≡ e = one_step P c d e r.ruled.0 s.ruled.0 in
    let others =
    one_run P e (n - 1) ds es (subst (λ x. IsConcreteRun P x (n - 1) ds) first (rest_of P c d n ds r))
    (rest_of P c e n es s) in
    λ i. first i ∷ others i

one_count : (c : Config) (ds : List Config) (k m : ℕ) → CountsSteps c ds k → CountsSteps c ds m → k ≡ m
one_count c [] k m a b = a ∙ sym b
one_count c (d ∷ ds) k m a b = elim a [
  | inl (last, more) ↦ elim b
      [ inl (last', more') ↦ one_count d ds k m more more' | inr (goes, j, is, more') ↦ absurd (goes last) ]
  | inr (goes, i, is, more) ↦ elim b [
    | inl (last, more') ↦ absurd (goes last)
    | inr (goes', j, is', more') ↦ is
        ∙ ap suc (one_count d ds i j more more') ∙ sym is'
  ]
]

-- and one state at its end

entry_one : (e f : Entry) → e.name ≡ f.name → e.value ≡ f.value → e ≡ f
entry_one e f p q = λ i. record { name = p i; value = q i }

at_place : (es : List Entry) (i : ℕ) (d : Entry) → AreDistinct es → i < length es
    → store_of es (get_or es i d).name ≡ (get_or es i d).value
at_place es i d apart within =
    listed_value es i (get_or es i d) apart within (get_or_default es i d (get_or es i d) within)

same_entries : (es fs : List Entry) → AreDistinct es → listed_names es ≡ listed_names fs → store_of es ≡ store_of fs
    → es ≡ fs
same_entries es fs apart names values =
    let d : Entry = record { name = []; value = 0 } in
    let count : length es ≡ length fs =
    sym (length-map es (λ (e : Entry). e.name)) ∙ ap length names ∙ length-map fs (λ (e : Entry). e.name) in
    let apart' : AreDistinct fs = subst (λ (ns : List Name). AllPairs (λ x y. x ≢ y) ns) names apart in
    ext_get_or d es fs count
    (λ i within.
    let within' : i < length fs = omega (arith, within, count) in
    let name : (get_or es i d).name ≡ (get_or fs i d).name =
    sym (get_or-map (λ (e : Entry). e.name) es i d [] within) ∙ ap (λ ns. get_or ns i []) names
    ∙ get_or-map (λ (e : Entry). e.name) fs i d [] within' in
    entry_one (get_or es i d) (get_or fs i d) name
    (sym (at_place es i d apart within) ∙ ap (store_of es) name ∙ ap (λ (s : Store). s (get_or fs i d).name) values
    ∙ at_place fs i d apart' within'))

one_state : (c : Config) (s t : State) → AllPairs (λ x y. x ≢ y) (variable_names c.top.procedure) → IsStateOf c s
    → IsStateOf c t → s ≡ t
one_state c s t apart a b =
    let distinct : AreDistinct s.store = subst (λ (ns : List Name). AllPairs (λ x y. x ≢ y) ns) (sym a.lists) apart in
    let stores = same_entries s.store t.store distinct (a.lists ∙ sym b.lists) (a.store ∙ sym b.store) in
    let heaps : s.heap ≡ t.heap = a.heap ∙ sym b.heap in
    λ i. record { store = stores i; heap = heaps i }

-- the procedure at work is one of the program's, so its variables are distinct

start_fits : (P : Program) (b : Begin) (proc : Procedure) → IsTyped P → BeginsIn P b proc → ConfigFits P (begun proc b)
start_fits P b proc typed begins = let here = member_at P b.procedure proc begins.numbered in
    (here, (typed_fit P typed proc here).body, tt)

run_fits : (P : Program) (c : Config) (ds : List Config) → IsTyped P → ConfigFits P c → IsRuledRun P c ds
    → ConfigFits P (last_of c ds)
run_fits P c [] typed fits r = fits
run_fits P c (d ∷ ds) typed fits r =
    run_fits P d ds typed (steps_fit P (typed_fit P typed) c d fits (plain_step P c d r.0)) r.1

-- of two reports the run, the steps and the state are one
record AreOne (ds es : List Config) (k m : ℕ) (s t : State) : Type 0 where
  run : ds ≡ es
  steps : k ≡ m
  state : s ≡ t

are_one : (P : Program) (c : Config) (n : ℕ) (ds es : List Config) (k m : ℕ) (s t : State) → IsTyped P → ConfigFits P c
    → ComesTo P c n ds k s → ComesTo P c n es m t → AreOne ds es k m s t
are_one P c n ds es k m s t typed fits a b =
    let run = one_run P c n ds es a.run b.run in
    let here = run_fits P c es typed fits b.run.ruled in
    record {
      run = run;
      steps = one_count c es k m (subst (λ x. CountsSteps c x k) run a.counted) b.counted;
      state =
          one_state (last_of c es) s t (variables_are_distinct P typed (last_of c es).top.procedure here.0)
          (subst (λ x. IsStateOf (last_of c x) s) run a.state) b.state;
    }

ended_well : (c : Config) → HasEnded c → Fault c → ⊥
ended_well c ended fault = subst (λ rest. FaultOn rest c.top.store c.heap) ended.0 fault

one_truth : (X Y : Type 0) (a b : Bool) → IsTrue a ↔ X → IsTrue b ↔ Y → (X → Y) → (Y → X) → a ≡ b
one_truth X Y true true p q f g = refl
one_truth X Y false false p q f g = refl
one_truth X Y true false p q f g = let wrong : IsTrue false = q.1 (f (p.0 refl)) in absurd cc
one_truth X Y false true p q f g = let wrong : IsTrue false = p.1 (g (q.0 refl)) in absurd cc

on_one : (P : Program) (proc : Procedure) (c : Config) (n : ℕ) (r t : Report) → IsTyped P → ConfigFits P c
    → IsReportOn P proc c n r → IsReportOn P proc c n t → r ≡ t
on_one P proc c n Unmet Unmet typed fits a b = refl
on_one P proc c n Unmet (Stopped m t) typed fits a b = absurd (a b.0)
on_one P proc c n Unmet (Faulted m t) typed fits a b = absurd (a b.0)
on_one P proc c n Unmet (Ended m t y) typed fits a b = absurd (a b.0)
on_one P proc c n (Stopped k s) Unmet typed fits a b = absurd (b a.0)
on_one P proc c n (Stopped k s) (Stopped m t) typed fits (well, ds, comes, stopped) (well', es, comes', stopped') =
    let one = are_one P c n ds es k m s t typed fits comes comes' in
    λ i. Stopped (one.steps i) (one.state i)
on_one P proc c n (Stopped k s) (Faulted m t) typed fits (well, ds, comes, stopped) (well', es, comes', goes, fault) =
    let one = are_one P c n ds es k m s t typed fits comes comes' in
    absurd (goes (subst (IsStopped c n) one.run stopped))
on_one P proc c n (Stopped k s) (Ended m t y) typed fits (well, ds, comes, stopped)
    (well', es, comes', goes, ended, tells) =
    let one = are_one P c n ds es k m s t typed fits comes comes' in
    absurd (goes (subst (IsStopped c n) one.run stopped))
on_one P proc c n (Faulted k s) Unmet typed fits a b = absurd (b a.0)
on_one P proc c n (Faulted k s) (Stopped m t) typed fits (well, ds, comes, goes, fault) (well', es, comes', stopped) =
    let one = are_one P c n ds es k m s t typed fits comes comes' in
    absurd (goes (subst (IsStopped c n) (sym one.run) stopped))
on_one P proc c n (Faulted k s) (Faulted m t) typed fits (well, ds, comes, goes, fault)
    (well', es, comes', goes', fault') =
    let one = are_one P c n ds es k m s t typed fits comes comes' in
    λ i. Faulted (one.steps i) (one.state i)
on_one P proc c n (Faulted k s) (Ended m t y) typed fits (well, ds, comes, goes, fault)
    (well', es, comes', goes', ended, tells) =
    let one = are_one P c n ds es k m s t typed fits comes comes' in
    absurd (ended_well (last_of c ds) (subst (λ x. HasEnded (last_of c x)) (sym one.run) ended) fault)
on_one P proc c n (Ended k s x) Unmet typed fits a b = absurd (b a.0)
on_one P proc c n (Ended k s x) (Stopped m t) typed fits (well, ds, comes, goes, ended, tells)
    (well', es, comes', stopped) =
    let one = are_one P c n ds es k m s t typed fits comes comes' in
    absurd (goes (subst (IsStopped c n) (sym one.run) stopped))
on_one P proc c n (Ended k s x) (Faulted m t) typed fits (well, ds, comes, goes, ended, tells)
    (well', es, comes', goes', fault) =
    let one = are_one P c n ds es k m s t typed fits comes comes' in
    absurd (ended_well (last_of c es) (subst (λ z. HasEnded (last_of c z)) one.run ended) fault)
on_one P proc c n (Ended k s x) (Ended m t y) typed fits (well, ds, comes, goes, ended, tells)
    (well', es, comes', goes', ended', tells') =
    let one = are_one P c n ds es k m s t typed fits comes comes' in
    let met =
    one_truth (IsMet proc c (last_of c ds)) (IsMet proc c (last_of c es)) x y tells tells'
    (λ w. subst (λ z. IsMet proc c (last_of c z)) one.run w)
    (λ w. subst (λ z. IsMet proc c (last_of c z)) (sym one.run) w) in
    λ i. Ended (one.steps i) (one.state i) (met i)

pub reports_are_one : ReportsAreOne
reports_are_one P b n r t typed (proc, begins, on) (q, begins', on') =
    let same : q ≡ proc = some_one q proc (sym begins'.numbered ∙ begins.numbered) in
    on_one P proc (begun proc b) n r t typed (start_fits P b proc typed begins) on
    (subst (λ x. IsReportOn P x (begun x b) n t) same on')
