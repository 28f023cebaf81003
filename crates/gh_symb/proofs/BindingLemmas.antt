-- Bindings that are encoded entry by entry.
use Rattle.std.specs.Prelude.{◌≡◌, ◌≢◌, ℕ, ◌+◌, ◌<◌, List, [], ◌∷◌, map, length, take, get_or, Option, Some, None, true}
use Rattle.std.specs.Prelude.{false, unwrap_or}
use Rattle.std.specs.Option.{option_map}
use Rattle.std.specs.Str.{bytes_eq}
use Rattle.std.proofs.Common.{refl, sym, ◌∙◌, ap, subst, inl, inr, arith}
use Rattle.std.proofs.lemmas.Slice.Eq.{bytes_eq-Decides}
use Rattle.std.proofs.lemmas.Bool.{cases_Bool}
use Rattle.gh_base.specs.declared.atom.Term.{Term}
use Rattle.gh_ast.specs.Programs.{Name}
use Rattle.gh_path.specs.Terms.{Bindings, Terms, walked}
use Rattle.gh_ast.specs.Plain.{Assertion}
use Rattle.gh_grass.specs.declared.binding.Bond.{Bond}
use Rattle.gh_grass.specs.Bindings.{IsBound}
use Rattle.gh_grass.proofs.Bonds.{same_name}
use Rattle.gh_symb.specs.Symbolic.{under, either_term}
use Rattle.gh_symb.specs.Fitting.{EncodesUnder}
use Rattle.gh_symb.specs.Formulas.{variables}
use Rattle.gh_symb.specs.Inside.{binding_of}
use Rattle.gh_symb.specs.Phases.{learned, bound_unless, under_bindings, both}
use Rattle.gh_symb.specs.Tables.{Pairs, bound_by, pair_of}
use Rattle.gh_symb.specs.declared.over_terms.BoundAssertion.{BoundAssertion}
use Rattle.gh_symb.specs.declared.scope.Entry.{Entry}
use Rattle.gh_symb.proofs.TableLemmas.{latest_more}

is_name : (x y : Name) → bytes_eq x y ≡ true → x ≡ y
is_name x y same = (bytes_eq-Decides x y).0 same

is_other : (x y : Name) → bytes_eq x y ≡ false → x ≢ y
is_other x y other same = let holds : bytes_eq x y ≡ true = same_name x y same in absurd cc

-- where entries give a term of 8 bits, a binding has it, and others where they give none
abbrev pub Covers : List Entry → Bindings → List Bond → Type 0
Covers es others bonds =
    (x : Name) → (variables (bound_by (map pair_of es)) x).0 < 256
    → binding_of bonds x ≡ either_term (bound_by (map pair_of es) x) (others x)

pub over_more : (es : List Entry) (i : ℕ) (e : Entry) → i < length es → e ≡ get_or es i e
    → (old new : List Bond) (t : Term) (o : Bindings) → (e.term < 256 → t.0 ≡ e.term) → IsBound old new e.name.now t →
    Covers (take i es) o old → Covers (take (i + 1) es) o new
over_more es i e within is old new t o term set before x fits =
    let more = latest_more es i e within is x in
    elim (cases_Bool (bytes_eq x e.name.now)) [
      | inl same ↦
          let here : bound_by (map pair_of (take (i + 1) es)) x ≡ Some e.term = more ∙ rw same refl in
          let small : e.term < 256 = subst (λ (b : Option ℕ). unwrap_or b 0 < 256) here fits in
          let there : binding_of new x ≡ Some e.term =
          ap (binding_of new) (is_name x e.name.now same) ∙ ap (option_map (λ (r : Term). r.0)) set.term_is
          ∙ ap Some (term small) in
          there ∙ sym (ap (λ b. either_term b (o x)) here)
      | inr other ↦
          let here : bound_by (map pair_of (take (i + 1) es)) x ≡ bound_by (map pair_of (take i es)) x =
          more ∙ rw other refl in
          let small : unwrap_or (bound_by (map pair_of (take i es)) x) 0 < 256 =
          subst (λ (b : Option ℕ). unwrap_or b 0 < 256) here fits in
          ap (option_map (λ (r : Term). r.0)) (set.others x (is_other x e.name.now other)) ∙ before x small
          ∙ sym (ap (λ b. either_term b (o x)) here)
    ]

pub learned_more : (es : List Entry) (i : ℕ) (e : Entry) → i < length es → e ≡ get_or es i e
    → (before old new initial : Bindings) → new ≡ bound_unless (before e.name.now) old e.name.now e.term →
    ((x : Name) → old x ≡ learned (before x) (bound_by (map pair_of (take i es)) x) (initial x)) → (x : Name)
    → new x ≡ learned (before x) (bound_by (map pair_of (take (i + 1) es)) x) (initial x)
learned_more es i e within is before old new initial one all x =
    let more = latest_more es i e within is x in
    let now : new x ≡ bound_unless (before e.name.now) old e.name.now e.term x = ap (λ (b : Bindings). b x) one in
    elim (cases_Bool (bytes_eq x e.name.now)) [
      | inl same ↦
          let here : bound_by (map pair_of (take (i + 1) es)) x ≡ Some e.term = more ∙ rw same refl in
          let known : before x ≡ before e.name.now = ap before (is_name x e.name.now same) in
          now ∙ at_name (before e.name.now) (bound_by (map pair_of (take i es)) x) same (rw known at (all x))
          ∙ sym (ap (λ b. learned b (Some e.term) (initial x)) known)
          ∙ sym (ap (λ b. learned (before x) b (initial x)) here)
      | inr other ↦
          let here : bound_by (map pair_of (take (i + 1) es)) x ≡ bound_by (map pair_of (take i es)) x =
          more ∙ rw other refl in
          now ∙ at_other (before e.name.now) other ∙ all x ∙ sym (ap (λ b. learned (before x) b (initial x)) here)
    ]
  where
    at_name : (b l : Option ℕ) → bytes_eq x e.name.now ≡ true → old x ≡ learned b l (initial x)
        → bound_unless b old e.name.now e.term x ≡ learned b (Some e.term) (initial x)
    at_name (Some u) l same is = is
    at_name None l same is = rw same refl

    at_other : (b : Option ℕ) → bytes_eq x e.name.now ≡ false → bound_unless b old e.name.now e.term x ≡ old x
    at_other (Some u) other = refl
    at_other None other = rw other refl

-- an assertion under the bindings of its walk
pub is_under : (f : Assertion) (b : BoundAssertion) (s t : Terms) → t ≡ walked f s → t.version ≡ s.version
    → EncodesUnder b (under_bindings f t.bindings t.version) → EncodesUnder b (under f s)
is_under f b s t e v is =
    subst (λ (q : Terms). EncodesUnder b (under_bindings f q.bindings s.version)) e
    (subst (λ i. EncodesUnder b (under_bindings f t.bindings i)) v is)

pub states_both : (F : Bindings) (ss : List Pairs)
    → map (λ es. both (bound_by es) F) ss ≡ map (λ b. both b F) (map bound_by ss)
states_both F [] = refl
states_both F (es ∷ ss) = ap (λ bs. both (bound_by es) F ∷ bs) (states_both F ss)

-- a term of the first, else of the second
pub either_encoded : (o u v w : Option ℕ) → (unwrap_or o 0 < 256 → w ≡ either_term o v) → (unwrap_or u 0 < 256 → v ≡ u)
    → unwrap_or (either_term o u) 0 < 256 → w ≡ either_term o u
either_encoded (Some t) u v w first second fits = first fits
either_encoded None u v w first second fits = first (omega arith) ∙ second fits
