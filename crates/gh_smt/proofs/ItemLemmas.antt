-- Lists of one kind of item, and what ends them, at the front of a text.
use Rattle.std.proofs.Common.{◌≡◌, ℕ, List, [], ◌∷◌, ◌++◌, refl, sym, ◌∙◌, ap, subst, arith, append_assoc}
use Rattle.std.specs.List.{flat_map}
use Rattle.std.proofs.lemmas.List.{append-nil, append_cancel_left}
use Rattle.std.proofs.lemmas.List.Elements.{All-head, All-tail, All-cons}
use Rattle.gh_log.specs.Reading.{SpellsNothing, IsNotFront}
use Rattle.gh_log.proofs.NumberLemmas.{AreOne}
use Rattle.gh_log.proofs.AtomLemmas.{Goes}
use Rattle.gh_smt.specs.Reading.{SpellsItems}

-- items are read in one way before other items and before what ends them, and none is read as that end
pub record AreItems {X : Type 0} (print : X → List ℕ) (W : X → Type 0) (end : List ℕ)
    (P : List ℕ → X → List ℕ → Type 0) : Type 0 where
  pub one : (text : List ℕ) (x y : X) (r q : List ℕ) → P text x r → P text y q → AreOne x y r q
  pub front : (text : List ℕ) (x : X) (r : List ℕ) → P text x r → text ≡ print x ++ r
  pub is : (text : List ℕ) (x : X) (r : List ℕ) → P text x r → W x
  pub before : (x : X) (xs : List X) (r : List ℕ) → W x
      → P (print x ++ (flat_map print xs ++ (end ++ r))) x (flat_map print xs ++ (end ++ r))
  pub apart : (x : X) (r q : List ℕ) → print x ++ r ≡ end ++ q → ⊥

record HasFirst {X : Type 0} (print : X → List ℕ) (W : X → Type 0) (end : List ℕ) (P : List ℕ → X → List ℕ → Type 0)
    (text : List ℕ) (x : X) (xs : List X) (rest : List ℕ) : Type 0 where
  after : List ℕ
  first : P text x after
  others : SpellsItems print W end after xs rest

first_item : {X : Type 0} (print : X → List ℕ) (W : X → Type 0) (end : List ℕ) (P : List ℕ → X → List ℕ → Type 0)
    → AreItems print W end P
    → (text : List ℕ) (x : X) (xs : List X) (rest : List ℕ) → SpellsItems print W end text (x ∷ xs) rest
    → HasFirst print W end P text x xs rest
first_item print W end P i text x xs rest s =
    let after = flat_map print xs ++ (end ++ rest) in
    let e = s.front ∙ append_assoc (print x) (flat_map print xs) (end ++ rest) in
    record {
      after = after;
      first = subst (λ t. P t x after) (sym e) (i.before x xs rest (All-head W x xs s.spelled));
      others = record { front = refl; spelled = All-tail W x xs s.spelled };
    }

pub item_first : {X : Type 0} (print : X → List ℕ) (W : X → Type 0) (end : List ℕ) (P : List ℕ → X → List ℕ → Type 0)
    → AreItems print W end P
    → (text after : List ℕ) (x : X) (xs : List X) (rest : List ℕ) → P text x after
    → SpellsItems print W end after xs rest → SpellsItems print W end text (x ∷ xs) rest
item_first print W end P i text after x xs rest a b =
    record {
      front =
          i.front text x after a ∙ ap (λ t. print x ++ t) b.front
          ∙ sym (append_assoc (print x) (flat_map print xs) (end ++ rest));
      spelled = All-cons W x xs (i.is text x after a) b.spelled;
    }

pub one_items : {X : Type 0} (print : X → List ℕ) (W : X → Type 0) (end : List ℕ) (P : List ℕ → X → List ℕ → Type 0)
    → AreItems print W end P
    → (text : List ℕ) (xs ys : List X) (r q : List ℕ) → SpellsItems print W end text xs r
    → SpellsItems print W end text ys q → AreOne xs ys r q
one_items print W end P i text [] [] r q a b =
    record { value = refl; rest = append_cancel_left end r q (sym a.front ∙ b.front) }
one_items print W end P i text [] (y ∷ ys) r q a b =
    absurd (i.apart y (flat_map print ys ++ (end ++ q)) r
    (sym (append_assoc (print y) (flat_map print ys) (end ++ q)) ∙ sym b.front ∙ a.front))
one_items print W end P i text (x ∷ xs) [] r q a b =
    absurd (i.apart x (flat_map print xs ++ (end ++ r)) q
    (sym (append_assoc (print x) (flat_map print xs) (end ++ r)) ∙ sym a.front ∙ b.front))
one_items print W end P i text (x ∷ xs) (y ∷ ys) r q a b =
    let f = first_item print W end P i text x xs r a in let g = first_item print W end P i text y ys q b in
    let one = i.one text x y f.after g.after f.first g.first in
    let more =
    one_items print W end P i f.after xs ys r q f.others
    (subst (λ t. SpellsItems print W end t ys q) (sym one.rest) g.others) in
    let here : x ≡ y = one.value in
    let there : xs ≡ ys = more.value in
    record { value = cc; rest = more.rest }

-- neither the end nor an item is next
pub no_item : {X : Type 0} (print : X → List ℕ) (W : X → Type 0) (end : List ℕ) (P : List ℕ → X → List ℕ → Type 0)
    → AreItems print W end P
    → (text : List ℕ) → IsNotFront end text → SpellsNothing (P text) → SpellsNothing (SpellsItems print W end text)
no_item print W end P i text h k [] rest s = h rest s.front
no_item print W end P i text h k (x ∷ xs) rest s = let f = first_item print W end P i text x xs rest s in
    k x f.after f.first

-- one item more
pub goes_item : {X : Type 0} (print : X → List ℕ) (W : X → Type 0) (end : List ℕ) (P : List ℕ → X → List ℕ → Type 0)
    → AreItems print W end P
    → (whole text after : List ℕ) (xs ys : List X) (x : X)
    → Goes (SpellsItems print W end text) (SpellsItems print W end whole) (λ zs. xs ++ zs) → P text x after
    → ys ≡ xs ++ x ∷ []
    → Goes (SpellsItems print W end after) (SpellsItems print W end whole) (λ zs. ys ++ zs)
goes_item print W end P i whole text after xs ys x g a e =
    record {
      forth = λ zs rest h.
          subst (λ b. SpellsItems print W end whole b rest) (sym (ap (λ b. b ++ zs) e ∙ append_assoc xs (x ∷ []) zs))
          (g.forth (x ∷ zs) rest (item_first print W end P i text after x zs rest a h));
      back = λ h. g.back (no_more print W end P i text after x a h);
    }
  where
    no_more : {X : Type 0} (print : X → List ℕ) (W : X → Type 0) (end : List ℕ) (P : List ℕ → X → List ℕ → Type 0)
        → AreItems print W end P
        → (text after : List ℕ) (x : X) → P text x after → SpellsNothing (SpellsItems print W end after)
        → SpellsNothing (SpellsItems print W end text)
    no_more print W end P i text after x a h [] rest s = i.apart x after rest (sym (i.front text x after a) ∙ s.front)
    no_more print W end P i text after x a h (y ∷ ys) rest s =
        let f = first_item print W end P i text y ys rest s in
        let one = i.one text x y after f.after a f.first in
        h ys rest (subst (λ t. SpellsItems print W end t ys rest) (sym one.rest) f.others)

pub goes_end : {X : Type 0} (print : X → List ℕ) (W : X → Type 0) (end whole text after : List ℕ) (xs : List X)
    → Goes (SpellsItems print W end text) (SpellsItems print W end whole) (λ zs. xs ++ zs)
    → text ≡ end ++ after → SpellsItems print W end whole xs after
goes_end print W end whole text after xs g e =
    subst (λ b. SpellsItems print W end whole b after) (append-nil xs)
    (g.forth [] after (record { front = e; spelled = λ k d l. absurd (omega arith) }))

pub goes_none : {X : Type 0} (print : X → List ℕ) (W : X → Type 0) (end text : List ℕ) (xs : List X) → xs ≡ []
    → Goes (SpellsItems print W end text) (SpellsItems print W end text) (λ zs. xs ++ zs)
goes_none print W end text xs e =
    record { forth = λ d rest s. subst (λ b. SpellsItems print W end text (b ++ d) rest) (sym e) s; back = λ h. h }
