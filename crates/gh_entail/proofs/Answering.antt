-- What a refutation or a model of the clauses of a question says of it.
use Rattle.std.specs.Prelude.{◌≡◌, ℕ, ◌<◌, length, false, Some}
use Rattle.std.specs.Option.{option_map}
use Rattle.std.proofs.Common.{refl, sym, ◌∙◌, ap, subst, arith}
use Rattle.std.proofs.lemmas.Bool.{false≢true}
use Rattle.std.proofs.lemmas.List.{length-map}
use Rattle.gh_base.specs.declared.atom.Term.{Term}
use Rattle.gh_base.specs.Grounds.{Problem}
use Rattle.gh_base.specs.Structures.{Tables, interpretation_of}
use Rattle.gh_ast.specs.Programs.{Name, names}
use Rattle.gh_ast.specs.Questions.{Question}
use Rattle.gh_log.specs.declared.lines.Section.{Section}
use Rattle.gh_grass.specs.Bindings.{term_in}
use Rattle.gh_symb.specs.Encodings.{plain_kind}
use Rattle.gh_ground.specs.Solving as solving
use Rattle.gh_trace.specs.declared.state.State.{State}
use Rattle.gh_assert.specs.Meaning.{Store}
use Rattle.gh_model.specs.BuiltTraces.{stands_at, content_at, heap_in, store_under}
use Rattle.gh_model.specs.Classes.{class_of}
use Rattle.gh_model.specs.Versions.{equal_in}
use Rattle.gh_model.specs.KeptTraces.{store_in, state_in}
use Rattle.gh_model.proofs.locality.BuiltVersions.{cells_not}
use Rattle.gh_model.proofs.building.Stores.{listed_under}
use Rattle.gh_entail.specs.Meaning.{IsEntailed, Fails}
use Rattle.gh_entail.specs.Formulas.{question_problem}
use Rattle.gh_entail.specs.Terms.{question_walked}
use Rattle.gh_entail.specs.Laws.{store_from}
use Rattle.gh_entail.specs.Rules.{IsTyped}
use Rattle.gh_entail.specs.Asked.{AreTerms}
use Rattle.gh_entail.specs.Answers.{FailsIn}
use Rattle.gh_entail.specs.declared.terms.QuestionTerms.{QuestionTerms}
use Rattle.gh_entail.proofs.Failing.{models_fail}
use Rattle.gh_entail.proofs.Sections.{sections_show_entailment}
use Rattle.gh_entail.proofs.Stating.{store_kept}
use Rattle.gh_entail.proofs.Walking.{question_bounded}

pub shown : (q : Question) (p : Problem) (s : Section) → p ≡ question_problem q → solving.IsRefutationOf p s
    → IsEntailed q × solving.IsRefutationOf (question_problem q) s
shown q p s e R =
    let refutes : solving.IsRefutationOf (question_problem q) s =
    subst (λ (x : Problem). solving.IsRefutationOf x s) e R in
    (sections_show_entailment q s.lines refutes.valid, refutes)

pub failed : (q : Question) (p : Problem) (m : Tables) (t : QuestionTerms) (x : State) → p ≡ question_problem q
    → solving.IsModelOf p m → IsTyped q → AreTerms q t → x ≡ state_in m (names q.variables) 0 t.binding → FailsIn q x
failed q p m t x e I typed told is =
    let i = interpretation_of m in
    let n = length (question_walked q).kinds in
    let J : solving.IsModelOf (question_problem q) m = subst (λ (x : Problem). solving.IsModelOf x m) e I in
    let fails : Fails q (store_from q i) (heap_in i n 0) =
    models_fail q i (record { congruence = J.congruence; instances = J.instances; clauses = J.clauses }) in
    let size : m.sizes.terms ≡ n = ap (λ s. s.terms) J.sizes in
    let store =
    store_kept q m t.binding typed told.binding
    ∙ ap (λ k. store_under (class_of (equal_in i) k) (question_walked q).bindings) size in
    let heap = ap (λ k. heap_in i k 0) size in
    subst (FailsIn q) (sym is)
    (record {
      names = listed_under (store_in m t.binding) (names q.variables);
      proper =
          cells_not (stands_at i m.sizes.terms 0) (content_at i m.sizes.terms 0) m.sizes.terms 0
          (λ l there. let none : stands_at i m.sizes.terms 0 0 ≡ false = refl in false≢true (sym none ∙ there));
      fails =
          subst (λ (s : Store). Fails q s (heap_in i m.sizes.terms 0)) (sym store)
          (subst (Fails q (store_from q i)) (sym heap) fails);
    })

-- the terms of the variables are among them
pub terms_below : (q : Question) (t : QuestionTerms) (n : ℕ) → AreTerms q t → n ≡ length t.terms → (x : Name) (u : Term)
    → term_in t.binding x ≡ Some u → u.0 < n
terms_below q t n A e x u at =
    let bound : (question_walked q).bindings x ≡ Some u.0 =
    sym (A.binding x) ∙ ap (option_map (λ (v : Term). v.0)) at in
    let below = (question_bounded q).below x u.0 bound in
    let count : length t.terms ≡ length (question_walked q).kinds =
    sym (length-map t.terms plain_kind) ∙ ap length A.terms in
    omega (arith, below, count, e)
