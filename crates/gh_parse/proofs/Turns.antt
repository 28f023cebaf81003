-- A loop over a list reads what is left of a rule.
use Rattle.std.proofs.Common.{◌≡◌, List, [], ◌∷◌, ◌++◌, append_assoc, refl, ap, ◌<◌, length, arith}
use Rattle.gh_ast.specs.Tokens.{Token}
use Rattle.gh_parse.specs.Stops.{Any, Stops}

-- what P spells from here on is, put at its place, what Q spells from the start; where P stops, Q stops
pub record Goes {X Y : Type 0} (F : List Token → Type 0) (P : List Token → X → List Token → Type 0)
    (Q : List Token → Y → List Token → Type 0) (now start : List Token) (put : X → Y) : Type 0 where
  pub forth : (x : X) (rest : List Token) → P now x rest → Q start (put x) rest
  pub back : (left : List Token) → Stops F (Any P) now left → Stops F (Any Q) start left

pub goes_more : {X Y : Type 0} {F : List Token → Type 0} {P R : List Token → List X → List Token → Type 0}
    {Q : List Token → Y → List Token → Type 0} {now later start : List Token}
    (put : List X → Y) (xs ys : List X) (x : X)
    → Goes F P Q now start (λ l. put (xs ++ l)) → ys ≡ xs ++ x ∷ []
    → ((l : List X) (rest : List Token) → R later l rest → P now (x ∷ l) rest)
    → ((left : List Token) → Stops F (Any R) later left → Stops F (Any P) now left)
    → Goes F R Q later start (λ l. put (ys ++ l))
goes_more put xs ys x g e f b =
    record {
      forth = λ l rest r. rw (e, append_assoc) (g.forth (x ∷ l) rest (f l rest r));
      back = λ left s. g.back left (b left s);
    }

pub goes_last : {X Y : Type 0} {F : List Token → Type 0} {P : List Token → List X → List Token → Type 0}
    {Q : List Token → Y → List Token → Type 0} {now start : List Token}
    (put : List X → Y) (xs ys : List X) (x : X) (rest : List Token)
    → Goes F P Q now start (λ l. put (xs ++ l)) → ys ≡ xs ++ x ∷ [] → P now (x ∷ []) rest → Q start (put ys) rest
goes_last put xs ys x rest g e h = rw e (g.forth (x ∷ []) rest h)

-- the members of a list put before the rest of a chain
abbrev pub before : {X L : Type 0} → (X → L → L) → List X → L → L
before first [] l = l
before first (x ∷ xs) l = first x (before first xs l)

pub before-append : {X L : Type 0} (first : X → L → L) (xs : List X) (x : X) (l : L)
    → before first (xs ++ x ∷ []) l ≡ before first xs (first x l)
before-append first [] x l = refl
before-append first (y ∷ xs) x l = ap (first y) (before-append first xs x l)

pub chain_more : {X L Y : Type 0} {F : List Token → Type 0} {P R : List Token → L → List Token → Type 0}
    {Q : List Token → Y → List Token → Type 0} {now later start : List Token}
    (first : X → L → L) (put : L → Y) (xs ys : List X) (x : X)
    → Goes F P Q now start (λ l. put (before first xs l)) → ys ≡ xs ++ x ∷ []
    → ((l : L) (rest : List Token) → R later l rest → P now (first x l) rest)
    → ((left : List Token) → Stops F (Any R) later left → Stops F (Any P) now left)
    → Goes F R Q later start (λ l. put (before first ys l))
chain_more first put xs ys x g e f b =
    record {
      forth = λ l rest r. rw (e, before-append first xs x l) (g.forth (first x l) rest (f l rest r));
      back = λ left s. g.back left (b left s);
    }

pub chain_last : {X L Y : Type 0} {F : List Token → Type 0} {P : List Token → L → List Token → Type 0}
    {Q : List Token → Y → List Token → Type 0} {now start : List Token}
    (first : X → L → L) (put : L → Y) (xs ys : List X) (x : X) (end : L) (rest : List Token)
    → Goes F P Q now start (λ l. put (before first xs l)) → ys ≡ xs ++ x ∷ [] → P now (first x end) rest
    → Q start (put (before first ys end)) rest
chain_last first put xs ys x end rest g e h = rw (e, before-append first xs x end) (g.forth (first x end) rest h)

-- what is left after a step and a token is shorter
pub fewer : (ts us vs : List Token) {t : Token} → length us < length ts → us ≡ t ∷ vs → length vs < length ts
fewer ts us vs h e = let l = ap length e in omega arith
