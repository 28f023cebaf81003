-- The encodings of steps and checks from those of their parts.
use Rattle.std.specs.Prelude.{◌≡◌, ℕ, List, [], ◌∷◌, ◌++◌, filter, Option, Some, All, Bool}
use Rattle.std.proofs.Common.{refl, sym, ◌∙◌, ap, subst, Vec, Global}
use Rattle.std.proofs.lemmas.List.{append_assoc}
use Rattle.std.proofs.lemmas.List.Elements.{All-head, All-tail}
use Rattle.gh_base.specs.declared.atom.Term.{Term}
use Rattle.gh_ast.specs.Plain.{Assertion, Procedure}
use Rattle.gh_ast.specs.Programs.{Name, results_of}
use Rattle.gh_path.specs.Graphs.{While}
use Rattle.gh_path.specs.Terms.{Terms, walked, invariant_walked, moved_on, rebound, renewed, some_assigns, bound_inside}
use Rattle.gh_symb.specs.Symbolic.{Under, under, each_under, part_step, needs_under, entered_under, ended_under}
use Rattle.gh_symb.specs.Symbolic.{access_step, assume_step, write_step, new_step, free_step, access, sub, whole}
use Rattle.gh_symb.specs.Encodings.{Each, IsUnder}
use Rattle.gh_symb.specs.Fitting.{EncodesUnder, EncodesStep, EncodesCheck, IsTermOf, JoinsParts, AsksWhole}
use Rattle.gh_symb.specs.Inside.{IsUnderInside}
use Rattle.gh_symb.specs.Phases.{under_bindings, loop_encoding}
use Rattle.gh_symb.specs.Steps.{EndsWith}
use Rattle.gh_symb.specs.declared.over_terms.BoundAssertion.{BoundAssertion}
use Rattle.gh_symb.specs.declared.over_terms.TermStep.{TermStep}
use Rattle.gh_symb.specs.declared.over_terms.TermStep.TheVariants as step
use Rattle.gh_symb.specs.declared.over_terms.TermCheck.{TermCheck}
use Rattle.gh_symb.specs.declared.over_terms.TermCheck.TheVariants as check
use Rattle.gh_symb.proofs.FollowLemmas.{each_more}

pub accessed_encoded : (x : Term) (n : ℕ) → IsTermOf x n → EncodesStep (step.Access x) (access_step n)
accessed_encoded x n at = λ fits. ap access_step (sym (at fits.0))

pub assumed_encoded : (l r : Term) (e : Bool) (m n : ℕ) → IsTermOf l m → IsTermOf r n
    → EncodesStep (step.Assume l e r) (assume_step m e n)
assumed_encoded l r e m n at_left at_right = λ fits.
    ap (λ i. assume_step i e n) (sym (at_left fits.0)) ∙ ap (assume_step l.0 e) (sym (at_right fits.1))

pub written_encoded : (x v : Term) (m n : ℕ) → IsTermOf x m → IsTermOf v n
    → EncodesStep (step.Write x v) (write_step m n)
written_encoded x v m n at_place at_value = λ fits.
    ap (λ i. write_step i n) (sym (at_place fits.0)) ∙ ap (write_step x.0) (sym (at_value fits.1))

pub made_encoded : (l k : Term) (m n : ℕ) → IsTermOf l m → IsTermOf k n → EncodesStep (step.New l k) (new_step m n)
made_encoded l k m n at_place at_content = λ fits.
    ap (λ i. new_step i n) (sym (at_place fits.0)) ∙ ap (new_step l.0) (sym (at_content fits.1))

pub freed_encoded : (x : Term) (n : ℕ) → IsTermOf x n → EncodesStep (step.Free x) (free_step n)
freed_encoded x n at = λ fits. ap free_step (sym (at fits.0))

pub access_encoded : (x : Term) (n : ℕ) → IsTermOf x n → EncodesCheck (check.Access x) (access n)
access_encoded x n at = λ fits. ap access (sym (at fits))

-- alternatives of 8 bits are encoded one by one
pub each_fits : (bs : List BoundAssertion) (us : List Under) → Each EncodesUnder bs us → All (IsUnderInside 256 256) us
    → Each IsUnder bs us
each_fits [] [] each fits = tt
each_fits [] (u ∷ us) each fits = absurd each
each_fits (b ∷ bs) [] each fits = absurd each
each_fits (b ∷ bs) (u ∷ us) each fits = (
  each.0 (All-head (IsUnderInside 256 256) u us fits),
  each_fits bs us each.1 (All-tail (IsUnderInside 256 256) u us fits),
)

pub one_part : (before after : BoundAssertion) (ways : Vec BoundAssertion Global) (u w : Under)
    → ways.items ≡ after ∷ [] → EncodesUnder before u → EncodesUnder after w
    → EncodesStep (step.Part before ways) (part_step u (w ∷ []))
one_part before after ways u w is first second = λ fits. (
  u,
  w ∷ [],
  first fits.0,
  subst (λ (bs : List BoundAssertion). Each IsUnder bs (w ∷ [])) (sym is)
      (second (All-head (IsUnderInside 256 256) w [] fits.1), tt),
  refl,
)

pub sub_encoded : (b : BoundAssertion) (u : Under) → EncodesUnder b u → EncodesCheck (check.Sub b) (sub u)
sub_encoded b u one = λ fits. (u, one fits, refl)

pub whole_encoded : (ways : Vec BoundAssertion Global) (us : List Under) → Each EncodesUnder ways.items us
    → EncodesCheck (check.Whole ways) (whole us)
whole_encoded ways us each = λ fits. (us, each_fits ways.items us each fits, refl)

pub one_whole : (b : BoundAssertion) (ways : Vec BoundAssertion Global) (u : Under) → ways.items ≡ b ∷ []
    → EncodesUnder b u → EncodesCheck (check.Whole ways) (whole (u ∷ []))
one_whole b ways u is one =
    whole_encoded ways (u ∷ []) (subst (λ (bs : List BoundAssertion). Each EncodesUnder bs (u ∷ [])) (sym is) (one, tt))

pub loop_encoded : (xs : List Name) (l : While) (s r : Terms) (before after : BoundAssertion) (encoded : TermStep) →
    EncodesUnder before (under_bindings l.invariant s.bindings s.version)
    → r ≡ renewed (filter (some_assigns l.body) xs) (moved_on s) → EncodesUnder after (under l.invariant r) →
    JoinsParts before after encoded → EncodesStep encoded (loop_encoding (Some l) xs s)
loop_encoded xs l s r before after encoded first renew second joins =
    joins (under_bindings l.invariant s.bindings s.version)
    (under l.invariant (renewed (filter (some_assigns l.body) xs) (moved_on s))) first
    (subst (λ q. EncodesUnder after (under l.invariant q)) renew second)

pub call_encoded : (p : Procedure) (i r : Terms) (before : BoundAssertion) (after : Vec BoundAssertion Global) →
    EncodesUnder before (under p.needs i) → r ≡ moved_on (walked p.needs i)
    → Each EncodesUnder after.items (each_under p.gives (renewed (results_of p) r)) →
    EncodesStep (step.Part before after)
    (part_step (under p.needs i) (each_under p.gives (renewed (results_of p) (moved_on (walked p.needs i)))))
call_encoded p i r before after first moves all = λ fits.
    let at_end = each_under p.gives (renewed (results_of p) (moved_on (walked p.needs i))) in
    let ends : Each EncodesUnder after.items at_end =
    subst (λ q. Each EncodesUnder after.items (each_under p.gives (renewed (results_of p) q))) moves all in
    (under p.needs i, at_end, first fits.0, each_fits after.items at_end ends fits.1, refl)

pub entry_encoded : (p : Procedure) (ts : List ℕ) (s i : Terms) (b : BoundAssertion) → i ≡ rebound s (bound_inside p ts)
    → EncodesUnder b (under p.needs i) → EncodesCheck (check.Sub b) (needs_under (Some p) ts s)
entry_encoded p ts s i b enters first =
    sub_encoded b (under p.needs (rebound s (bound_inside p ts)))
    (subst (λ q. EncodesUnder b (under p.needs q)) enters first)

-- the invariant of a loop that is found by its number, once it is walked; as it is asked where the loop is entered, and
-- where its body ends
pub invariant_goes : (o : Option While) (l : While) (f : Assertion) (s t : Terms) → o ≡ Some l → f ≡ l.invariant
    → t ≡ walked f s → t ≡ invariant_walked o s
invariant_goes o l f s t at is walks = walks ∙ ap (λ g. walked g s) is ∙ ap (λ q. invariant_walked q s) (sym at)

pub entered_encoded : (o : Option While) (l : While) (f : Assertion) (s : Terms) (b : BoundAssertion) → o ≡ Some l
    → f ≡ l.invariant → EncodesUnder b (under f s) → EncodesCheck (check.Sub b) (entered_under o s)
entered_encoded o l f s b at is one =
    subst (λ q. EncodesCheck (check.Sub b) (entered_under q s)) (sym at)
    (subst (λ g. EncodesCheck (check.Sub b) (sub (under g s))) is (sub_encoded b (under f s) one))

pub ended_encoded : (o : Option While) (l : While) (f : Assertion) (s : Terms) (b : BoundAssertion) (asked : TermCheck)
    → o ≡ Some l → f ≡ l.invariant → EncodesUnder b (under f s) → AsksWhole b asked →
    EncodesCheck asked (ended_under o s)
ended_encoded o l f s b asked at is one asks =
    subst (λ q. EncodesCheck asked (ended_under q s)) (sym at)
    (subst (λ g. EncodesCheck asked (whole (under g s ∷ []))) is (asks (under f s) one))

pub ends_with : (s t : Terms) → t ≡ s → EndsWith s t.kinds t.version
ends_with s t e = record { kinds_are = ap (λ (q : Terms). q.kinds) e; version_is = ap (λ (q : Terms). q.version) e }

-- one more alternative is walked and encoded
pub each_encoded : (bs : List BoundAssertion) (b : BoundAssertion) (encoded_so_far : List Under) (f : Assertion)
    (fs : List Assertion) (s t : Terms) (all : List Under) →
    Each EncodesUnder bs encoded_so_far → EncodesUnder b (under f s) → t ≡ walked f s
    → encoded_so_far ++ each_under (f ∷ fs) s ≡ all →
    Each EncodesUnder (bs ++ b ∷ []) (encoded_so_far ++ under f s ∷ [])
    × ((encoded_so_far ++ under f s ∷ []) ++ each_under fs t ≡ all)
each_encoded bs b us f fs s t all before one walks is = (
  each_more EncodesUnder bs us b (under f s) before one,
  append_assoc us (under f s ∷ []) (each_under fs t) ∙ ap (λ q. us ++ under f s ∷ each_under fs q) walks ∙ is,
)
