-- The parts of a condition over terms, as they are encoded.
use Rattle.std.specs.Prelude.{◌≡◌, List, [], ◌∷◌}
use Rattle.std.specs.Option.{option_map}
use Rattle.gh_base.specs.declared.atom.Term.{Term}
use Rattle.gh_base.specs.declared.term.TermKind.{TermKind}
use Rattle.gh_base.specs.declared.term.TermKind.TheVariants.{Null, Value, Next}
use Rattle.gh_ast.specs.Plain.{assertion_of}
use Rattle.gh_ast.specs.Programs.{Name}
use Rattle.gh_path.specs.Terms.{Kind, null, value, next, Bindings}
use Rattle.gh_grass.specs.declared.binding.Bond.{Bond}
use Rattle.gh_grass.specs.Bindings.{term_in}
use Rattle.gh_symb.specs.Symbolic as plain
use Rattle.gh_symb.specs.declared.over_terms.BoundAssertion.{BoundAssertion}
use Rattle.gh_symb.specs.declared.over_terms.TermStep.{TermStep}
use Rattle.gh_symb.specs.declared.over_terms.TermStep.TheVariants as step
use Rattle.gh_symb.specs.declared.over_terms.TermCheck.{TermCheck}
use Rattle.gh_symb.specs.declared.over_terms.TermCheck.TheVariants as check

abbrev pub plain_kind : TermKind → Kind
plain_kind Null = null
plain_kind (Value n) = value n
plain_kind (Next i t) = next i t.0

-- R holds of the members of two lists, one by one, and the lists are equally long
abbrev pub Each : {A B : Type 0} → (A → B → Type 0) → List A → List B → Type 0
Each R [] [] = Unit {0}
Each R [] (b ∷ bs) = ⊥
Each R (a ∷ as') [] = ⊥
Each R (a ∷ as') (b ∷ bs) = R a b × Each R as' bs

-- these names have these terms, and no others have any
abbrev pub IsBinding : List Bond → Bindings → Type 0
IsBinding bonds b = (x : Name) → option_map (λ (t : Term). t.0) (term_in bonds x) ≡ b x

pub record IsUnder (b : BoundAssertion) (u : plain.Under) : Type 0 where
  pub assertion : assertion_of b.assertion.now ≡ u.assertion
  pub binding : IsBinding b.binding u.binding
  pub version : b.version ≡ u.version

abbrev pub IsTermStep : TermStep → plain.TermStep → Type 0
IsTermStep (step.Access x) s = s ≡ plain.access_step x.0
IsTermStep (step.Assume l e r) s = s ≡ plain.assume_step l.0 e r.0
IsTermStep step.Same s = s ≡ plain.same_step
IsTermStep (step.Write x e) s = s ≡ plain.write_step x.0 e.0
IsTermStep (step.New l k) s = s ≡ plain.new_step l.0 k.0
IsTermStep (step.Free x) s = s ≡ plain.free_step x.0
IsTermStep (step.Part b a) s =
    (u : plain.Under) × (us : List plain.Under) × IsUnder b u × Each IsUnder a.items us × (s ≡ plain.part_step u us)

abbrev pub IsTermCheck : TermCheck → plain.TermCheck → Type 0
IsTermCheck (check.Access x) k = k ≡ plain.access x.0
IsTermCheck (check.Sub b) k = (u : plain.Under) × IsUnder b u × (k ≡ plain.sub u)
IsTermCheck (check.Whole bs) k = (us : List plain.Under) × Each IsUnder bs.items us × (k ≡ plain.whole us)
