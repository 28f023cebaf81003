use Rattle.std.proofs.Common.{◌≡◌, ◌⊎◌, ◌+◌, ◌<◌, ◌≤◌, length, get_or, ◌∙◌, sym, subst, drop, inl, inr, refl}
use Rattle.std.proofs.lemmas.List.{drop_all}
use Rattle.gh_assert.specs.Stores.{store_of, AreDistinct}
use Rattle.gh_trace.specs.Targets.{IsTarget}
use Rattle.gh_trace.proofs.Listings.{KeptOf, next, listed_value, kept_more, kept_nothing, all_kept}
use Rattle.gh_trace.proofs.stores.keeps.Goals as goal
use Rattle.gh_trace.proofs.stores.keeps.Goals.{else-value-entry-via-then-value-entry+else-not-has}
use Rattle.gh_trace.proofs.stores.keeps.Goals.{else-value-entry-via-else-value-entry}

pub returns-then-not-has : goal.returns-then-not-has
returns-then-not-has c =
    let e = c.entry-item.result in
    let told : store_of c.args.before.now e.name ≡ e.value =
    listed_value c.args.before.now c.loop-entry.entry-index e
    (subst AreDistinct c.entries-entry-items.ensures.same c.entries-entry-items.ensures.distinct)
    (subst (λ es. c.loop-entry.entry-index < length es) c.entries-entry-items.ensures.same c.loop-entry-test.true)
    (subst (λ es. e ≡ get_or es c.loop-entry.entry-index e) c.entries-entry-items.ensures.same c.entry-item.is) in
    let is : c.value.result ≡ store_of c.args.after.now e.name = c.value.ensures in
    let out : IsTarget c.args.targets e.name → ⊥ = λ target. (let has = c.has.ensures.1 target in absurd cc) in
    (λ no. absurd cc, λ keeps. absurd (c.if-value-entry.true (is ∙ keeps e.name out ∙ told)))

pub loop-entry-preserved : goal.loop-entry-preserved
loop-entry-preserved c rest =
    let e = c.entry-item.result in
    let told : store_of c.args.before.now e.name ≡ e.value =
    listed_value c.args.before.now c.loop-entry.entry-index e
    (subst AreDistinct c.entries-entry-items.ensures.same c.entries-entry-items.ensures.distinct)
    (subst (λ es. c.loop-entry.entry-index < length es) c.entries-entry-items.ensures.same c.loop-entry-test.true)
    (subst (λ es. e ≡ get_or es c.loop-entry.entry-index e) c.entries-entry-items.ensures.same c.entry-item.is) in
    let is : c.value.result ≡ store_of c.args.after.now e.name = c.value.ensures in
    let either : (store_of c.args.after.now e.name ≡ e.value) ⊎ IsTarget c.args.targets e.name =
    elim c.else-value-entry.branch [
      | else-value-entry-via-then-value-entry+else-not-has w ↦ inr (w.has.ensures.0 w.if-not-has.false)
      | else-value-entry-via-else-value-entry w ↦ inl (sym is ∙ w.if-value-entry.false)
    ] in
    c.loop-entry.invariant (subst (KeptOf c.args.targets c.args.before.now c.args.after.now)
    (sym (next c.args.before.now c.loop-entry.entry-index e
    (subst (λ es. c.loop-entry.entry-index < length es) c.entries-entry-items.ensures.same c.loop-entry-test.true)
    (subst (λ es. e ≡ get_or es c.loop-entry.entry-index e) c.entries-entry-items.ensures.same c.entry-item.is)))
    (kept_more c.args.targets c.args.before.now c.args.after.now e
    (drop (c.loop-entry.entry-index + 1) c.args.before.now) told either rest))

pub returns : goal.returns
returns c =
    let all : KeptOf c.args.targets c.args.before.now c.args.after.now c.args.before.now =
    c.loop-entry.invariant (subst (KeptOf c.args.targets c.args.before.now c.args.after.now)
    (sym (drop_all c.loop-entry.entry-index c.args.before.now
    (subst (λ es. length es ≤ c.loop-entry.entry-index) c.entries-entry-items.ensures.same
    c.loop-entry-test.false))) (kept_nothing c.args.targets c.args.before.now c.args.after.now)) in
    (λ is. all_kept c.args.targets c.args.before.now c.args.after.now c.requires all, λ keeps. refl)
