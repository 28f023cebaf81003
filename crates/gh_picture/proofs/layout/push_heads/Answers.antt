use Rattle.std.specs.Prelude.{◌≡◌, ◌+◌, false, true, List, [], ◌∷◌, ◌++◌, drop}
use Rattle.std.proofs.Common.{ℕ, sym, ◌∙◌, ap, append_assoc}
use Rattle.gh_picture.specs.Spots.{is_led_to, heads}
use Rattle.gh_picture.proofs.OrderLemmas.{a_head, no_head}
use Rattle.gh_picture.proofs.layout.push_heads.Goals.{then-not-flags-number+in_ok-push, else-not-flags-number}
use Rattle.gh_picture.proofs.layout.push_heads.Goals as goal

pub loop-number-preserved : goal.loop-number-preserved
loop-number-preserved c =
    let k = c.loop-number.number in
    let cells = c.args.cells.now in
    let old = c.loop-number.order.items in
    let h = c.loop-number-test.true in
    let rest = heads cells (k + 1) (drop (k + 1) cells) in
    let flag = c.requires.each k h in
    elim c.if-not-flags-number.branch [
      | then-not-flags-number+in_ok-push w ↦
          let head : is_led_to cells k ≡ false = sym flag ∙ w.if-not-flags-number.true in
          rw w.order-is (ap (λ (ns : List ℕ). ns ++ rest) w.in_ok-push.ensures.items ∙ append_assoc old (k ∷ []) rest
          ∙ ap (λ (ns : List ℕ). old ++ ns) (sym (a_head cells k h head)) ∙ c.loop-number.invariant)
      | else-not-flags-number w ↦
          let led : is_led_to cells k ≡ true = sym flag ∙ w.if-not-flags-number.false in
          rw w.order-is (ap (λ (ns : List ℕ). old ++ ns) (sym (no_head cells k h led)) ∙ c.loop-number.invariant)
    ]
