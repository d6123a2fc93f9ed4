-- The worked cases hold: each computes in the models.
use Rattle.std.proofs.Common.{◌≡◌, ℕ, List, [], ◌∷◌, ◌++◌, length, ap, inr, arith, lit<}
use Rattle.boards.specs.Layers.{Layer, layer_face}
use Rattle.boards.specs.Calls.{Call, tells, carries, settles, Run}
use Rattle.boards.specs.Faces.{Face}
use Rattle.boards.specs.Cases.{AnyLayerDoes, told_once, told_twice, told_rising, WorkedCasesHold}
use Rattle.boards.proofs.Models.{layer_run, model_of, own, site_shown, own_agrees, layer_after}

infixr 20 ◌also◌
◌also◌ : {A B : Type 0} → A → B → A × B
a also b = (a, b)

told : (cs : List Call) (k : ℕ) (l m : Layer Face) → Run AnyLayerDoes cs l m → (layer_face m).told k ≡ own (layer_run cs (model_of l)) k
told cs k l m run = own_agrees m (layer_run cs (model_of l)) (layer_after cs l m run) k

below : (cs : List Call) (k : ℕ) (l m : Layer Face) → Run AnyLayerDoes cs l m → m.below.told k ≡ (layer_run cs (model_of l)).told k
below cs k l m run = (layer_after cs l m run).below.told k

holds : (cs : List Call) (l m : Layer Face) → Run AnyLayerDoes cs l m → length m.held ≡ length (layer_run cs (model_of l)).held
holds cs l m run = ap length (layer_after cs l m run).held

pub worked : WorkedCasesHold
worked =
    let carried : List Call = told_once ++ carries 8 ∷ [] in
    let settled : List Call = told_once ++ carries 8 ∷ settles ∷ [] in
    let between : List Call = told_twice ++ tells 0 7 ∷ [] in
    (λ f g run. site_shown told_once 0 1 f g run (lit< tt) (lit< tt)) also
    (λ f g run. site_shown told_once 9 1 f g run (lit< tt) (lit< tt)) also
    (λ f g run. site_shown carried 0 1 f g run (lit< tt) (lit< tt)) also
    (λ f g run. site_shown carried 8 1 f g run (lit< tt) (lit< tt)) also
    (λ f g run. site_shown carried 1 1 f g run (lit< tt) (lit< tt)) also
    (λ f g run. site_shown carried 9 1 f g run (lit< tt) (lit< tt)) also
    (λ f g run. site_shown settled 9 1 f g run (lit< tt) (lit< tt)) also
    holds (told_rising 64) also
    told (told_rising 64) 0 also
    below (told_rising 64) 0 also
    holds (told_rising 65) also
    told (told_rising 65) 0 also
    below (told_rising 65) 0 also
    below told_twice 0 also
    told told_twice 0 also
    (λ l m run. let own-price : (layer_face m).told 0 ≡ 9 = told told_twice 0 l m run in inr (omega arith)) also
    (λ l m run.
    let seats : m.below.size ≡ 2 = (layer_after told_twice l m run).below.size in
    let price : m.below.told 0 ≡ 5 = below told_twice 0 l m run in
    (omega arith, omega arith)) also
    told between 0 also
    holds between also
    below (told_twice ++ tells 0 7 ∷ settles ∷ []) 0 also
    holds (told_twice ++ tells 0 9 ∷ []) also
    tt
