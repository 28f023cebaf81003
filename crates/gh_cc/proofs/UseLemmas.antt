-- Mentions of terms.
use Rattle.std.proofs.Common.{◌≡◌, ◌≢◌, inl, inr, ℕ, zero, suc, ◌+◌, ◌<◌, ◌≤◌, List, [], ◌∷◌, ◌++◌, length, take}
use Rattle.std.proofs.Common.{Option, Some, None, refl, sym, ap, ◌∙◌, subst, arith}
use Rattle.std.specs.Prelude.{slice_get, slice_set}
use Rattle.std.proofs.lemmas.Bool.{cases_eq, cases_lt}
use Rattle.std.proofs.lemmas.Option.{same_Some, none-some}
use Rattle.std.proofs.lemmas.List.{length_push, length-map, length-set}
use Rattle.gh_base.specs.declared.atom.Term.{Term}
use Rattle.gh_cc.specs.declared.uses.Mention.{Mention}
use Rattle.gh_cc.specs.Uses.{terms_of, IsLast, AreUses}
use Rattle.gh_base.proofs.ListLemmas.{get_within, get_front, get_push, get_last, get_set_same, get_set_other}
use Rattle.gh_base.specs.Atoms.{term}

pub terms_push : (ms : List Mention) (m : Mention) → terms_of (ms ++ m ∷ []) ≡ terms_of ms ++ m.term ∷ []
terms_push [] m = refl
terms_push (x ∷ ms) m = ap (λ (ts : List (Option Term)). x.term ∷ ts) (terms_push ms m)

pub terms_take : (n : ℕ) (ms : List Mention) → terms_of (take n ms) ≡ take n (terms_of ms)
terms_take zero ms = refl
terms_take (suc n) [] = refl
terms_take (suc n) (x ∷ ms) = ap (λ (ts : List (Option Term)). x.term ∷ ts) (terms_take n ms)

pub terms_long : (ms : List Mention) → length (terms_of ms) ≡ length ms
terms_long ms = length-map ms (λ (m : Mention). m.term)

pub last_more : (list : List (Option Term)) (x : Option Term) (t : Term) (bound next : ℕ) → bound ≤ length list
    → IsLast list t bound next → IsLast (list ++ x ∷ []) t bound next
last_more list x t bound next h l = record {
  within = l.within;
  here = λ n e. get_front list (x ∷ []) n (Some t) (l.here n e);
  none = λ j low high at. elim (get_push list x j (Some t) at) as (λ _. ⊥) [
    | inl old ↦ l.none j low high old
    | inr new ↦
        absurd (omega (arith, new.0))
  ];
}

pub last_front : (list : List (Option Term)) (x : Option Term) (t : Term) (bound next : ℕ) → bound ≤ length list
    → IsLast (list ++ x ∷ []) t bound next → IsLast list t bound next
last_front list x t bound next h l = record {
  within = l.within;
  here = λ n e. elim (get_push list x n (Some t) (l.here n e)) as (λ _. slice_get list n ≡ Some (Some t)) [
    | inl old ↦
        old
    | inr new ↦ absurd (let w = l.within in omega (arith, new.0))
  ];
  none = λ j low high at. l.none j low high (get_front list (x ∷ []) j (Some t) at);
}

pub last_skip : (list : List (Option Term)) (x : Option Term) (t : Term) (next : ℕ) → x ≢ Some t
    → IsLast list t (length list) next → IsLast (list ++ x ∷ []) t (length list + 1) next
last_skip list x t next other l = record {
  within = let w = l.within in omega arith;
  here = λ n e. get_front list (x ∷ []) n (Some t) (l.here n e);
  none = λ j low high at. elim (get_push list x j (Some t) at) as (λ _. ⊥) [
    | inl old ↦ l.none j low (get_within list j (Some t) old) old
    | inr new ↦ other new.1
  ];
}

pub last_here : (list : List (Option Term)) (t : Term)
    → IsLast (list ++ Some t ∷ []) t (length list + 1) (length list + 1)
last_here list t = record {
  within = omega arith;
  here = λ n e. let is : length list ≡ n = omega arith in
      subst (λ k. slice_get (list ++ Some t ∷ []) k ≡ Some (Some t)) is (get_last list (Some t));
  none = λ j low high at. absurd (omega arith);
}

pub last_less : (list : List (Option Term)) (x : Option Term) (t : Term) (next : ℕ) → x ≢ Some t
    → IsLast (list ++ x ∷ []) t (length list + 1) next → IsLast list t (length list) next
last_less list x t next other l =
    let within : next ≤ length list = elim (cases_lt (length list) next) as (λ _. next ≤ length list) [
      | inl lt ↦
          let is : next ≡ suc (length list) = let w = l.within in omega arith in
          absurd (other (same_Some _ _ (sym (get_last list x) ∙ l.here (length list) is)))
      | inr ge ↦ ge
    ] in
    record {
      within = within;
      here = λ n e.
          elim (get_push list x n (Some t) (l.here n e)) as (λ _. slice_get list n ≡ Some (Some t)) [
            | inl old ↦
                old
            | inr new ↦ absurd (omega (arith, new.0))
          ];
      none = λ j low high at. l.none j low (omega arith) (get_front list (x ∷ []) j (Some t) at);
    }

nothing : {X : Type 0} (t : Term) → None ≡ Some t → X
nothing t e = absurd (none-some t e)

-- a mention of nothing
pub uses_push_none : (ms : List Mention) (last : List ℕ) (m : Mention) → AreUses ms last → m.term ≡ None
    → AreUses (ms ++ m ∷ []) last
uses_push_none ms last m u none =
    let long = terms_long ms in
    record {
      heads = λ t n at.
          let skip : m.term ≢ Some t = λ e. nothing t (sym none ∙ e) in
          rw (terms_push ms m, length_push ms m, ← long)
          (last_skip (terms_of ms) m.term t n skip (rw long (u.heads t n at)));
      links = λ i k t at is.
          elim (get_push ms m i k at) as (λ _. (t.0 < length last) × IsLast (terms_of (ms ++ m ∷ [])) t i k.before) [
            | inl old ↦
                let w = u.links i k t old is in
                let below = get_within ms i k old in
                (w.0, rw (terms_push ms m) (last_more (terms_of ms) m.term t i k.before (omega (arith, long)) w.1))
            | inr new ↦ nothing t (sym none ∙ ap (λ (y : Mention). y.term) new.1 ∙ is)
          ];
    }

-- a mention of a term
pub uses_push_some : (ms : List Mention) (last : List ℕ) (t : Term) (n : ℕ) → AreUses ms last
    → slice_get last t.0 ≡ Some n
    → AreUses (ms ++ (record { term = Some t; before = n }) ∷ []) (slice_set last t.0 (length ms + 1))
uses_push_some ms last t n u at =
    let m : Mention = record { term = Some t; before = n } in
    let long = terms_long ms in
    let inside = get_within last t.0 n at in
    let set = length-set last t.0 (length ms + 1) in
    record {
      heads = λ v k there.
          elim (cases_eq v.0 t.0) as (λ _. IsLast (terms_of (ms ++ m ∷ [])) v (length (ms ++ m ∷ [])) k) [
            | inl same ↦
                let is : t ≡ v = ap term (sym same) in
                let now : slice_get (slice_set last t.0 (length ms + 1)) v.0 ≡ Some (length ms + 1) =
                ap (slice_get (slice_set last t.0 (length ms + 1))) same
                ∙ get_set_same last t.0 (length ms + 1) inside in
                let value : length ms + 1 ≡ k = same_Some _ _ (sym now ∙ there) in
                rw (terms_push ms m, length_push ms m, ← value, ← is, ← long) (last_here (terms_of ms) t)
            | inr ne ↦
                let old : slice_get last v.0 ≡ Some k = sym (get_set_other last t.0 v.0 (length ms + 1) ne) ∙ there in
                let skip : Some t ≢ Some v = λ e. ne (ap (λ (y : Term). y.0) (sym (same_Some t v e))) in
                rw (terms_push ms m, length_push ms m, ← long)
                (last_skip (terms_of ms) (Some t) v k skip (rw long (u.heads v k old)))
          ];
      links = λ i k v there is.
          elim (get_push ms m i k there) as (λ _. (v.0 < length (slice_set last t.0 (length ms + 1)))
          × IsLast (terms_of (ms ++ m ∷ [])) v i k.before) [
            | inl old ↦
                let w = u.links i k v old is in
                let below = get_within ms i k old in (
                  omega (arith, set, w.0),
                  rw (terms_push ms m) (last_more (terms_of ms) (Some t) v i k.before (omega (arith, long)) w.1),
                )
            | inr new ↦
                let named : Some t ≡ Some v = ap (λ (y : Mention). y.term) new.1 ∙ is in
                let v_is : t ≡ v = same_Some t v named in
                let before : n ≡ k.before = ap (λ (y : Mention). y.before) new.1 in (
                  omega (arith, set, inside, ap (λ (y : Term). y.0) v_is),
                  rw (terms_push ms m, ← before, ← v_is, new.0)
                      (last_more (terms_of ms) (Some t) t (length ms) n (omega (arith, long)) (u.heads t n at)),
                )
          ];
    }

pub uses_pop_none : (ms : List Mention) (last : List ℕ) (m : Mention) → AreUses (ms ++ m ∷ []) last
    → ((t : Term) → m.term ≢ Some t) → AreUses ms last
uses_pop_none ms last m u none =
    let long = terms_long ms in
    record {
      heads = λ t n at.
          rw (← long) (last_less (terms_of ms) m.term t n (none t)
          (rw (terms_push ms m, length_push ms m, ← long) at (u.heads t n at)));
      links = λ i k t at is.
          let w = u.links i k t (get_front ms (m ∷ []) i k at) is in
          let below = get_within ms i k at in
          (w.0, last_front (terms_of ms) m.term t i k.before (omega (arith, long)) (rw (terms_push ms m) at w.1));
    }

pub uses_pop_some : (ms : List Mention) (last : List ℕ) (m : Mention) (t : Term) → AreUses (ms ++ m ∷ []) last
    → m.term ≡ Some t → AreUses ms (slice_set last t.0 m.before)
uses_pop_some ms last m t u named =
    let long = terms_long ms in
    let top = u.links (length ms) m t (get_last ms m) named in
    let set = length-set last t.0 m.before in
    record {
      heads = λ v k there. elim (cases_eq v.0 t.0) as (λ _. IsLast (terms_of ms) v (length ms) k) [
        | inl same ↦
            let is : t ≡ v = ap term (sym same) in
            let now : slice_get (slice_set last t.0 m.before) v.0 ≡ Some m.before =
            ap (slice_get (slice_set last t.0 m.before)) same ∙ get_set_same last t.0 m.before top.0 in
            let value : m.before ≡ k = same_Some _ _ (sym now ∙ there) in
            rw (← value, ← is)
            (last_front (terms_of ms) m.term t (length ms) m.before (omega (arith, long))
            (rw (terms_push ms m) at top.1))
        | inr ne ↦
            let old : slice_get last v.0 ≡ Some k = sym (get_set_other last t.0 v.0 m.before ne) ∙ there in
            let skip : m.term ≢ Some v = λ e. ne (ap (λ (y : Term). y.0) (sym (same_Some t v (sym named ∙ e)))) in
            rw (← long) (last_less (terms_of ms) m.term v k skip
            (rw (terms_push ms m, length_push ms m, ← long) at (u.heads v k old)))
      ];
      links = λ i k v there is.
          let w = u.links i k v (get_front ms (m ∷ []) i k there) is in
          let below = get_within ms i k there in (
            omega (arith, set, w.0),
            last_front (terms_of ms) m.term v i k.before (omega (arith, long))
                (rw (terms_push ms m) at w.1),
          );
    }
