-- A step is determined by the configuration and what it may choose.
use Rattle.std.specs.Prelude.{◌≡◌, ℕ, List, [], ◌∷◌, map, cond, Some, None, Contains}
use Rattle.std.specs.FinMap.{get, insert}
use Rattle.std.proofs.lemmas.Bool.{cases_eq}
use Rattle.std.proofs.Common.{refl, sym, ◌∙◌, ap, subst, inl, inr}
use Rattle.gh_ast.specs.Plain.{set, new, write, free, call, if, while, return, Statements, no_statements}
use Rattle.gh_ast.specs.Plain.{statement_first, Procedure, Program}
use Rattle.gh_ast.specs.Programs.{Name, names, parameters_of, results_of, joined}
use Rattle.gh_ast.proofs.Lists.{same_values, one_value}
use Rattle.gh_ast.proofs.Declared.{is_one}
use Rattle.gh_ast.proofs.Members.{name_or}
use Rattle.gh_assert.specs.Heaps.{Heap}
use Rattle.gh_assert.specs.Meaning.{Store}
use Rattle.gh_assert.specs.Values.{result, outcome, Gets}
use Rattle.gh_assert.proofs.Cells.{get_put, get_beside}
use Rattle.gh_assert.proofs.Agree.{maps_agree}
use Rattle.gh_machine.specs.Machine.{Activation, Config, continuing, starting, HandsBack, Pops, Returns, StepOn}
use Rattle.gh_machine.specs.Choices.{Choice, Follows}
use Rattle.gh_machine.specs.Laws.{StepsAreChosen}

-- stores that agree on some names, and beside them, are one
pub one_store : (xs : List Name) (t u : Store) → map t xs ≡ map u xs → ((y : Name) → (Contains xs y → ⊥) → t y ≡ u y)
    → t ≡ u
one_store xs t u same beside = λ i. λ y. at y i
  where
    at : (y : Name) → t y ≡ u y
    at y = elim (name_or xs y) [ inl there ↦ maps_agree xs t u same y there | inr out ↦ beside y out ]

-- what is assigned determines the store
pub gets_one : (s : Store) (xs : List Name) (vs ws : List ℕ) (t u : Store) → vs ≡ ws → Gets s xs vs t → Gets s xs ws u
    → t ≡ u
gets_one s xs vs ws t u same a b =
    one_store xs t u (a.given ∙ same ∙ sym b.given) (λ y out. a.kept y out ∙ sym (b.kept y out))

answers_one : (rest : Statements) (a : Activation) (below : List Activation) (p : Procedure) (t : Store) (h : Heap)
    (d e : Config) → HandsBack rest a below p t h d → HandsBack rest a below p t h e → d ≡ e
answers_one (statement_first (call xs f es) rest) a below p t h d e (u, gets, to) (u', gets', to') =
    let same : u ≡ u' =
    gets_one a.store (names xs) (map t (results_of p)) (map t (results_of p)) u u' refl gets gets' in
    to ∙ ap (λ s. record { heap = h; top = record { procedure = a.procedure; store = s; rest = rest }; below = below })
    same ∙ sym to'
answers_one rest a below p t h d e w v = absurd w

pops_one : (below : List Activation) (p : Procedure) (t : Store) (h : Heap) (d e : Config) → Pops below p t h d
    → Pops below p t h e → d ≡ e
pops_one [] p t h d e w v = absurd w
pops_one (a ∷ below) p t h d e w v = answers_one a.rest a below p t h d e w v

none_pops : (below : List Activation) (p : Procedure) (t : Store) (h : Heap) (d : Config) → below ≡ []
    → Pops below p t h d → ⊥
none_pops below p t h d alone pops = subst (λ b. Pops b p t h d) alone pops

returns_one : (c : Config) (t : Store) (d e : Config) → Returns c t d → Returns c t e → d ≡ e
returns_one c t d e w v = elim w [
  | inl (alone, to) ↦ elim v
      [ inl (alone', to') ↦ to ∙ sym to' | inr pops ↦ absurd (none_pops c.below c.top.procedure t c.heap e alone pops) ]
  | inr pops ↦ elim v [
    | inl (alone, to) ↦ absurd (none_pops c.below c.top.procedure t c.heap d alone pops)
    | inr pops' ↦ pops_one c.below c.top.procedure t c.heap d e pops pops'
  ]
]

-- a new cell is known from the heap that it stands in
one_cell_more : (h : Heap) (l v k w : ℕ) → get h l ≡ None → insert h l v ≡ insert h k w → (l ≡ k) × (v ≡ w)
one_cell_more h l v k w out same =
    let here : get (insert h k w) l ≡ Some v = ap (λ z. get z l) (sym same) ∙ get_put h l v in
    elim (cases_eq l k) [
      | inl at ↦ let there : get (insert h k w) k ≡ Some w = get_put h k w in
          let moved : get (insert h k w) k ≡ Some v = subst (λ q. get (insert h k w) q ≡ Some v) at here in
          (at, cc)
      | inr away ↦ let none : get (insert h k w) l ≡ None = get_beside h k w l away ∙ out in absurd cc
    ]

determined : (P : Program) (if : Choice) (rest : Statements) (c d e : Config) → StepOn P rest c d → Follows if rest c d
    → StepOn P rest c e → Follows if rest c e → d ≡ e
determined P ch no_statements c d e w f v g = pops_one c.below c.top.procedure c.top.store c.heap d e w v
determined P ch (statement_first (set x r) rest) c d e (v, t, reads, gets, to) f (v', t', reads', gets', to') g =
    let same : v ≡ v' = one_value (result c.top.store c.heap r) v v' reads reads' in
    let stores : t ≡ t' =
    gets_one c.top.store (x.name ∷ []) (v ∷ []) (v' ∷ []) t t' (ap (λ w. w ∷ []) same) gets gets' in
    to ∙ ap (λ s. continuing c s c.heap rest) stores ∙ sym to'
determined P ch (statement_first (new x) rest) c d e (l, v, t, some, out, gets, to) f
    (l', v', t', some', out', gets', to') g =
    let heaps : insert c.heap l v ≡ insert c.heap l' v' =
    sym (ap (λ z. z.heap) to) ∙ f ∙ sym g ∙ ap (λ z. z.heap) to' in
    let same = one_cell_more c.heap l v l' v' out heaps in
    let stores : t ≡ t' =
    gets_one c.top.store (x.name ∷ []) (l ∷ []) (l' ∷ []) t t' (ap (λ w. w ∷ []) same.0) gets gets' in
    to ∙ ap (λ s. continuing c s (insert c.heap l v) rest) stores ∙ ap (λ h. continuing c t' h rest) heaps ∙ sym to'
determined P ch (statement_first (write x r) rest) c d e (v, reads, there, to) f (v', reads', there', to') g =
    let same : v ≡ v' = one_value (result c.top.store c.heap r) v v' reads reads' in
    to ∙ ap (λ w. continuing c c.top.store (insert c.heap (c.top.store x.name) w) rest) same ∙ sym to'
determined P ch (statement_first (free x) rest) c d e (there, to) f (there', to') g = to ∙ sym to'
determined P ch (statement_first (call xs n es) rest) c d e (proc, vs, t, decl, gives, params, to) f
    (p', vs', t', decl', gives', params', to') g =
    let same : proc ≡ p' = is_one P.procedures n.name proc p' decl decl' in
    let values : vs ≡ vs' = same_values vs vs' (sym gives ∙ gives') in
    let left : (y : Name) → (Contains (parameters_of proc) y → ⊥) → t y ≡ ch.starts y =
    subst (λ z. (y : Name) → (Contains (parameters_of z.top.procedure) y → ⊥) → z.top.store y ≡ ch.starts y) to f in
    let right : (y : Name) → (Contains (parameters_of p') y → ⊥) → t' y ≡ ch.starts y =
    subst (λ z. (y : Name) → (Contains (parameters_of z.top.procedure) y → ⊥) → z.top.store y ≡ ch.starts y) to'
    g in
    let right' : (y : Name) → (Contains (parameters_of proc) y → ⊥) → t' y ≡ ch.starts y =
    subst (λ q. (y : Name) → (Contains (parameters_of q) y → ⊥) → t' y ≡ ch.starts y) (sym same) right in
    let params'' : map t' (parameters_of proc) ≡ vs' = subst (λ q. map t' (parameters_of q) ≡ vs') (sym same) params' in
    let stores : t ≡ t' =
    one_store (parameters_of proc) t t' (params ∙ values ∙ sym params'')
    (λ y out. left y out ∙ sym (right' y out)) in
    to ∙ ap (λ s. starting proc s c.heap (c.top ∷ c.below)) stores
    ∙ ap (λ q. starting q t' c.heap (c.top ∷ c.below)) same ∙ sym to'
determined P ch (statement_first (if test a ca b cb) rest) c d e (way, gives, to) f (way', gives', to') g =
    let same : way ≡ way' = one_value (outcome c.top.store c.heap test) way way' gives gives' in
    to ∙ ap (λ w. continuing c c.top.store c.heap (cond w (joined a rest) (joined b rest))) same ∙ sym to'
determined P ch (statement_first (while at test inv body close) rest) c d e (way, gives, to) f (way', gives', to') g =
    let same : way ≡ way' = one_value (outcome c.top.store c.heap test) way way' gives gives' in
    to ∙ ap (λ w. continuing c c.top.store c.heap
    (cond w (joined body (statement_first (while at test inv body close) rest)) rest)) same ∙ sym to'
determined P ch (statement_first (return at es) rest) c d e (vs, t, gives, gets, ends) f (vs', t', gives', gets', ends')
    g =
    let values : vs ≡ vs' = same_values vs vs' (sym gives ∙ gives') in
    let stores : t ≡ t' = gets_one c.top.store (results_of c.top.procedure) vs vs' t t' values gets gets' in
    returns_one c t' d e (subst (λ s. Returns c s d) stores ends) ends'

abbrev free_choice : Choice
free_choice = record { location = 0; content = 0; starts = λ y. 0 }

some : (P : Program) (rest : Statements) (c d : Config) → StepOn P rest c d → (if : Choice) × Follows if rest c d
some P no_statements c d w = (free_choice, tt)
some P (statement_first (set x r) rest) c d w = (free_choice, tt)
some P (statement_first (new x) rest) c d (l, v, t, nonnull, out, gets, to) =
    (record { location = l; content = v; starts = t }, ap (λ z. z.heap) to)
some P (statement_first (write x r) rest) c d w = (free_choice, tt)
some P (statement_first (free x) rest) c d w = (free_choice, tt)
some P (statement_first (call xs n es) rest) c d (proc, vs, t, decl, gives, params, to) =
    (record { location = 0; content = 0; starts = t }, λ y out. ap (λ z. z.top.store y) to)
some P (statement_first (if test a ca b cb) rest) c d w = (free_choice, tt)
some P (statement_first (while at test inv body close) rest) c d w = (free_choice, tt)
some P (statement_first (return at es) rest) c d w = (free_choice, tt)

pub steps_are_chosen : StepsAreChosen
steps_are_chosen = record {
  some_choice = λ P c d st. let found = some P c.top.rest c d st in (found.0, (st, found.1));
  one_step = λ P if c d e a b. determined P if c.top.rest c d e a.0 a.1 b.0 b.1;
}
