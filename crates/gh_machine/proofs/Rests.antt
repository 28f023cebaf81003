-- The rests of blocks, laid out.
use Rattle.std.specs.Prelude.{◌≡◌, ℕ, zero, suc, ◌+◌, ◌-◌, ◌<◌, ◌==◌, Bool, true, T, List, [], ◌∷◌, ◌++◌, length, take}
use Rattle.std.specs.Prelude.{drop, set, get_or}
use Rattle.std.proofs.lemmas.List.{take_more, take_all}
use Rattle.std.proofs.Common.{Bor, refl, sym, ◌∙◌, ap, subst, append_assoc, append-nil, arith}
use Rattle.std.proofs.lemmas.Grind.{common_steps}
use Rattle.std.proofs.Math.Facts.{eqb_yes}
use Rattle.gh_ast.specs.declared.Stmt.{Stmt}
use Rattle.gh_machine.specs.Rests.{laid_out, AreOpen}

-- the last block comes first
pub last_first : (bs : List (Bor (List Stmt))) (b : Bor (List Stmt)) → laid_out (bs ++ b ∷ []) ≡ b.now ++ laid_out bs
last_first [] b = sym (append-nil b.now)
last_first (c ∷ bs) b = ap (λ xs. xs ++ c.now) (last_first bs b) ∙ append_assoc b.now (laid_out bs) c.now

pub laid_last : (bs : List (Bor (List Stmt))) (n : ℕ) (d : Bor (List Stmt)) → length bs ≡ suc n
    → laid_out bs ≡ (get_or bs n d).now ++ laid_out (take n bs)
laid_last bs n d count =
    ap laid_out (sym (take_all (n + 1) bs (omega (arith, count))) ∙ take_more bs n d (omega (arith, count)))
    ∙ last_first (take n bs) (get_or bs n d)

first_of : (xs ys : List Stmt) (d : Stmt) → 0 < length xs → xs ++ ys ≡ get_or xs 0 d ∷ drop 1 (xs ++ ys)
first_of [] ys d some = absurd (omega (arith, some))
first_of (x ∷ xs) ys d some = refl

-- the next statement is the first one of the last block
pub first_is : (bs : List (Bor (List Stmt))) (n : ℕ) (d : Bor (List Stmt)) (e : Stmt) → AreOpen bs → length bs ≡ suc n
    → laid_out bs ≡ get_or (get_or bs n d).now 0 e ∷ drop 1 (laid_out bs)
first_is bs n d e open' count =
    let last : laid_out bs ≡ (get_or bs n d).now ++ laid_out (take n bs) = laid_last bs n d count in
    last ∙ first_of (get_or bs n d).now (laid_out (take n bs)) e (open' n d (omega (arith, count)))
    ∙ ap (λ xs. get_or (get_or bs n d).now 0 e ∷ drop 1 xs) (sym last)

rest_of_one : (xs ys : List Stmt) → length xs ≡ 1 → drop 1 (xs ++ ys) ≡ ys
rest_of_one [] ys one = absurd (omega (arith, one))
rest_of_one (x ∷ []) ys one = refl
rest_of_one (x ∷ y ∷ xs) ys one = absurd (omega (arith, one))

rest_of_some : (xs ys : List Stmt) → 0 < length xs → drop 1 (xs ++ ys) ≡ drop 1 xs ++ ys
rest_of_some [] ys some = absurd (omega (arith, some))
rest_of_some (x ∷ xs) ys some = refl

-- a last block of one statement goes
pub last_gone : (bs : List (Bor (List Stmt))) (n : ℕ) (d : Bor (List Stmt)) → length bs ≡ suc n
    → length (get_or bs n d).now ≡ 1 → laid_out (take n bs) ≡ drop 1 (laid_out bs)
last_gone bs n d count one =
    sym (rest_of_one (get_or bs n d).now (laid_out (take n bs)) one) ∙ ap (drop 1) (sym (laid_last bs n d count))

set_last : (bs : List (Bor (List Stmt))) (n : ℕ) (b : Bor (List Stmt)) → length bs ≡ suc n
    → laid_out (set bs n b) ≡ b.now ++ laid_out (take n bs)
set_last [] n b count = absurd (omega (arith, count))
set_last (c ∷ []) zero b count = sym (append-nil b.now)
set_last (c ∷ []) (suc n) b count = absurd (omega (arith, count))
set_last (c ∷ d ∷ bs) zero b count = absurd (omega (arith, count))
set_last (c ∷ d ∷ bs) (suc n) b count =
    ap (λ xs. xs ++ c.now) (set_last (d ∷ bs) n b (omega (arith, count)))
    ∙ append_assoc b.now (laid_out (take n (d ∷ bs))) c.now

-- a longer last block loses its first statement
pub last_shorter : (bs : List (Bor (List Stmt))) (n : ℕ) (d b : Bor (List Stmt)) → length bs ≡ suc n
    → 0 < length (get_or bs n d).now → b.now ≡ drop 1 (get_or bs n d).now → laid_out (set bs n b) ≡ drop 1 (laid_out bs)
last_shorter bs n d b count some same =
    set_last bs n b count ∙ ap (λ xs. xs ++ laid_out (take n bs)) same
    ∙ sym (rest_of_some (get_or bs n d).now (laid_out (take n bs)) some)
    ∙ ap (drop 1) (sym (laid_last bs n d count))

-- all but the first
pub rest_all : (xs : List Stmt) → take (length xs - 1) (drop 1 xs) ≡ drop 1 xs
rest_all xs = grind (arith, common_steps)

pub counted : (bs : List (Bor (List Stmt))) (k len : ℕ) → k ≡ len → len ≡ length bs → (k ≡ 0 → ⊥)
    → length bs ≡ suc (k - 1)
counted bs k len is count some = omega (arith, is, count, not_zero k some)
  where
    not_zero : (n : ℕ) → (n ≡ 0 → ⊥) → 0 < n
    not_zero zero some = absurd (some refl)
    not_zero (suc n) some = omega arith

pub next_is : (bs : List (Bor (List Stmt))) (n : ℕ) (b : Bor (List Stmt)) (s : Stmt) (ss : List Stmt) → AreOpen bs
    → length bs ≡ suc n → b ≡ get_or bs n b → s ≡ get_or b.now 0 s → laid_out bs ≡ ss → ss ≡ s ∷ drop 1 ss
next_is bs n b s ss open' count is at same =
    let first : get_or (get_or bs n b).now 0 s ≡ s = ap (λ (z : Bor (List Stmt)). get_or z.now 0 s) (sym is) ∙ sym at in
    subst (λ xs. xs ≡ s ∷ drop 1 xs) same (first_is bs n b s open' count ∙ ap (λ z. z ∷ drop 1 (laid_out bs)) first)

is_zero : (x : ℕ) → (x == 0) ≡ true → x ≡ 0
is_zero x e = eqb_yes (subst T (sym e) tt)

pub gone : (bs new : List (Bor (List Stmt))) (n : ℕ) (b : Bor (List Stmt)) (t : Bool) → AreOpen bs → length bs ≡ suc n
    → b ≡ get_or bs n b → t ≡ (length (take (length b.now - 1) (drop 1 b.now)) == 0) → t ≡ true → new ≡ take n bs
    → laid_out new ≡ drop 1 (laid_out bs)
gone bs new n b t open' count is test empty taken =
    let none : length (drop 1 b.now) ≡ 0 =
    ap length (sym (rest_all b.now))
    ∙ is_zero (length (take (length b.now - 1) (drop 1 b.now))) (sym test ∙ empty) in
    let some : 0 < length b.now =
    subst (λ (z : Bor (List Stmt)). 0 < length z.now) (sym is) (open' n b (omega (arith, count))) in
    ap laid_out taken ∙ last_gone bs n b count
    (subst (λ (z : Bor (List Stmt)). length z.now ≡ 1) is (one b.now none some))
  where
    one : (xs : List Stmt) → length (drop 1 xs) ≡ 0 → 0 < length xs → length xs ≡ 1
    one [] none some = absurd (omega (arith, some))
    one (x ∷ xs) none some = ap suc none

pub shorter : (bs : List (Bor (List Stmt))) (n : ℕ) (b new : Bor (List Stmt)) → AreOpen bs → length bs ≡ suc n
    → b ≡ get_or bs n b → new.now ≡ take (length b.now - 1) (drop 1 b.now)
    → laid_out (set bs n new) ≡ drop 1 (laid_out bs)
shorter bs n b new open' count is left =
    last_shorter bs n b new count (open' n b (omega (arith, count)))
    (left ∙ rest_all b.now ∙ ap (λ (z : Bor (List Stmt)). drop 1 z.now) is)

pub counted_some : (bs : List (Bor (List Stmt))) (k len : ℕ) → k ≡ len → len ≡ length bs → 0 < length bs
    → length bs ≡ suc (k - 1)
counted_some bs k len is count some = omega (arith, is, count, some)
