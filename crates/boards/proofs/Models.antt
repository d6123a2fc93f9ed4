-- Models that compute: what calls lead to, as functions, and that every run of calls agrees with them.
use Rattle.std.proofs.Common.{◌≡◌, ℕ, ◌%◌, ◌<◌, Bool, true, false, cond, ◌&&◌, eqb, ltb, leb, List, [], ◌∷◌, ◌++◌, take, drop, sym, refl, ap, ◌∙◌, subst, ⊎_elim, arith}
use Rattle.std.proofs.lemmas.Bool.Decides.{nat_tests}
use Rattle.std.proofs.lemmas.Bool.{cond-true, cond-false}
use Rattle.boards.specs.declared.tellings.Telling.{Telling}
use Rattle.boards.specs.Limits.{seat_limit, site_count}
use Rattle.boards.specs.Faces.{Face, Cleared, Takes, Refuses, Told, SameTold, BoardDoes, within}
use Rattle.boards.specs.Tellings.{newest, calls}
use Rattle.boards.specs.Layers.{Layer, layer_face, due}
use Rattle.boards.specs.Calls.{Call, clears, tells, carries, settles, Run}
use Rattle.boards.specs.Sites.{SiteDoes}
use Rattle.boards.specs.Cases.{AnyLayerDoes}
use Rattle.boards.specs.FacesLemmas.{told_is, cases_takes}

-- the size after a clear
abbrev pub size_after : ℕ → ℕ
size_after n = cond (leb n seat_limit) n 0

-- whether a board of n seats with told prices p takes a telling
abbrev pub takes? : ℕ → (ℕ → ℕ) → ℕ → ℕ → Bool
takes? n p k x = ltb k n && leb (p k) x

-- the told price of seat j after a telling
abbrev pub told_after : ℕ → (ℕ → ℕ) → ℕ → ℕ → ℕ → ℕ
told_after n p k x j = cond (takes? n p k x) (cond (eqb j k) x (p j)) (p j)

pub size_after_lem : (n : ℕ) (g : Face) → Cleared n g → g.size ≡ size_after n
size_after_lem n g c = grind (arith, nat_tests, c.emptied, c.sized)

pub takes_true : (f : Face) (n : ℕ) (p : ℕ → ℕ) (k x : ℕ) → f.size ≡ n → f.told k ≡ p k → Takes f k x → takes? n p k x ≡ true
takes_true f n p k x size told t = grind (arith, nat_tests)

pub takes_false : (f : Face) (n : ℕ) (p : ℕ → ℕ) (k x : ℕ) → f.size ≡ n → f.told k ≡ p k → Refuses f k x → takes? n p k x ≡ false
takes_false f n p k x size told why = grind (arith, nat_tests)

pub told_after_lem : (f g : Face) (n : ℕ) (p : ℕ → ℕ) (k x : ℕ) → f.size ≡ n → ((j : ℕ) → f.told j ≡ p j) → Told f g k x → (j : ℕ) → g.told j ≡ told_after n p k x j
told_after_lem f g n p k x size same told j = ⊎_elim
    (λ (t : Takes f k x). grind (arith, nat_tests, told_is f g k x told t j, takes_true f n p k x size (same k) t, same j))
    (λ (why : Refuses f k x). grind (arith, nat_tests, (told.refused why).0.told j, takes_false f n p k x size (same k) why, same j))
    (cases_takes f k x)

-- a site board after a call
abbrev pub site_step : Call → Face → Face
site_step (clears n) e = record { size = size_after n; told = λ _. 0; shown = λ _ _. 0 }
site_step (tells k x) e = record { size = e.size; told = told_after e.size e.told k x; shown = e.shown }
site_step (carries r) e = record { size = e.size; told = e.told; shown = λ i k. cond (eqb (i % site_count) (r % site_count)) (e.told k) (e.shown i k) }
site_step settles e = record { size = e.size; told = e.told; shown = λ _ k. e.told k }

abbrev pub site_run : List Call → Face → Face
site_run [] e = e
site_run (c ∷ cs) e = site_run cs (site_step c e)

-- a board means what the model says, as far as runs and seats below the size go
pub record SiteAgrees (f e : Face) : Type 0 where
  pub size : f.size ≡ e.size
  pub told : (k : ℕ) → f.told k ≡ e.told k
  pub shown : (i k : ℕ) → i < f.size → k < f.size → f.shown i k ≡ e.shown i k

pub site_step_lem : (c : Call) (f e g : Face) → SiteAgrees f e → SiteDoes c f g → SiteAgrees g (site_step c e)
site_step_lem (clears n) f e g a did = record { size = size_after_lem n g did; told = did.untold; shown = λ i k _ _. did.unshown i k }
site_step_lem (tells k x) f e g a did = record {
  size = did.told.size ∙ a.size;
  told = told_after_lem f g e.size e.told k x a.size a.told did.told;
  shown = λ i j h l. did.shown i j ∙ a.shown i j (omega (arith, did.told.size)) (omega (arith, did.told.size));
}
site_step_lem (carries r) f e g a did = record {
  size = did.carried.size ∙ a.size;
  told = λ k. did.carried.told k ∙ a.told k;
  shown = λ i k h l. grind (arith, nat_tests, did.reached i k, did.others i k, did.carried.size, a.told k, a.shown i k);
}
site_step_lem settles f e g a did = record {
  size = did.same.size ∙ a.size;
  told = λ k. did.same.told k ∙ a.told k;
  shown = λ i k h l. did.level i k h l ∙ did.same.told k ∙ a.told k;
}

pub site_run_lem : (cs : List Call) (f e g : Face) → SiteAgrees f e → Run SiteDoes cs f g → SiteAgrees g (site_run cs e)
site_run_lem [] f e g a is = subst (λ (h : Face). SiteAgrees h e) is a
site_run_lem (c ∷ cs) f e g a (m, did, rest) = site_run_lem cs m (site_step c e) g (site_step_lem c f e m a did) rest

-- what a site board shows after calls is what the model shows
pub site_shown : (cs : List Call) (i k : ℕ) (f g : Face) → Run SiteDoes cs f g → i < (site_run cs f).size → k < (site_run cs f).size → g.shown i k ≡ (site_run cs f).shown i k
site_shown cs i k f g run h l =
    let start : SiteAgrees f f = record { size = refl; told = λ k. refl; shown = λ i k _ _. refl } in
    let a : SiteAgrees g (site_run cs f) = site_run_lem cs f f g start run in
    a.shown i k (omega (arith, a.size)) (omega (arith, a.size))

-- a delay layer: the size, the told prices below, and what is held
pub record Model : Type 0 where
  pub size : ℕ
  pub told : ℕ → ℕ
  pub held : List Telling

-- the told prices below after tellings
abbrev pub told_after_all : ℕ → List Telling → (ℕ → ℕ) → ℕ → ℕ
told_after_all n [] p = p
told_after_all n (t ∷ ts) p = told_after_all n ts (told_after n p t.seat t.price)

-- the layer's own told price
abbrev pub own : Model → ℕ → ℕ
own s k = within s.size k (newest s.held k (s.told k))

abbrev pub pass_down : ℕ → Model → Model
pass_down r s = record { size = s.size; told = told_after_all s.size (take r s.held) s.told; held = drop r s.held }

abbrev pub hold : Telling → Model → Model
hold t s = record { size = s.size; told = s.told; held = s.held ++ t ∷ [] }

-- a delay layer after a call
abbrev pub layer_step : Call → Model → Model
layer_step (clears n) s = record { size = size_after n; told = λ _. 0; held = [] }
layer_step (tells k x) s = cond (takes? s.size (own s) k x) (hold (record { seat = k; price = x }) (pass_down (due s.held) s)) s
layer_step (carries r) s = pass_down r s
layer_step settles s = record { size = s.size; told = told_after_all s.size s.held s.told; held = [] }

abbrev pub layer_run : List Call → Model → Model
layer_run [] s = s
layer_run (c ∷ cs) s = layer_run cs (layer_step c s)

-- the board below means what the model says
pub record BelowAgrees (f : Face) (n : ℕ) (p : ℕ → ℕ) : Type 0 where
  pub size : f.size ≡ n
  pub told : (k : ℕ) → f.told k ≡ p k

pub record LayerAgrees (l : Layer Face) (s : Model) : Type 0 where
  pub below : BelowAgrees l.below s.size s.told
  pub held : l.held ≡ s.held

pub same_agrees : (f g : Face) (n : ℕ) (p : ℕ → ℕ) → SameTold f g → BelowAgrees f n p → BelowAgrees g n p
same_agrees f g n p same a = record { size = same.size ∙ a.size; told = λ k. same.told k ∙ a.told k }

pub passed_agrees : (ts : List Telling) (f g : Face) (n : ℕ) (p : ℕ → ℕ) → BelowAgrees f n p → Run BoardDoes (calls ts) f g → BelowAgrees g n (told_after_all n ts p)
passed_agrees [] f g n p a is = subst (λ (h : Face). BelowAgrees h n p) is a
passed_agrees (t ∷ ts) f g n p a (m, told, rest) =
    passed_agrees ts m g n (told_after n p t.seat t.price)
    (record { size = told.size ∙ a.size; told = told_after_lem f m n p t.seat t.price a.size a.told told })
    rest

pub own_agrees : (l : Layer Face) (s : Model) → LayerAgrees l s → (k : ℕ) → (layer_face l).told k ≡ own s k
own_agrees l s a k =
    ap (λ (n : ℕ). within n k (newest l.held k (l.below.told k))) a.below.size
    ∙ ap (λ (ts : List Telling). within s.size k (newest ts k (l.below.told k))) a.held
    ∙ ap (λ (x : ℕ). within s.size k (newest s.held k x)) (a.below.told k)

-- tellings that pass down, as many as the layer's list and the model's agree on
pub passed_held : (r : ℕ) (l : Layer Face) (s : Model) (g : Face) → LayerAgrees l s → Run BoardDoes (calls (take r l.held)) l.below g → BelowAgrees g s.size (pass_down r s).told
passed_held r l s g a p = passed_agrees (take r s.held) l.below g s.size s.told a.below (subst (λ (ts : List Telling). Run BoardDoes (calls (take r ts)) l.below g) a.held p)

pub layer_step_lem : (c : Call) (l m : Layer Face) (s : Model) → LayerAgrees l s → AnyLayerDoes c l m → LayerAgrees m (layer_step c s)
layer_step_lem (clears n) l m s a did = record { below = record { size = size_after_lem n m.below did.below; told = did.below.untold }; held = did.held }
layer_step_lem (tells k x) l m s a did =
    let t : Telling = record { seat = k; price = x } in
    let taken : Model = hold t (pass_down (due s.held) s) in
    ⊎_elim
    (λ (takes : Takes (layer_face l) k x).
    let is : takes? s.size (own s) k x ≡ true = takes_true (layer_face l) s.size (own s) k x a.below.size (own_agrees l s a k) takes in
    subst (λ (u : Model). LayerAgrees m u) (sym (cond-true (takes? s.size (own s) k x) taken s is))
    (record {
      below = passed_held (due s.held) l s m.below a (subst (λ (ts : List Telling). Run BoardDoes (calls (take (due ts) l.held)) l.below m.below) a.held (did.below takes));
      held = did.held takes ∙ ap (λ (ts : List Telling). drop (due ts) ts ++ (t ∷ [])) a.held;
    }))
    (λ (why : Refuses (layer_face l) k x).
    let is : takes? s.size (own s) k x ≡ false = takes_false (layer_face l) s.size (own s) k x a.below.size (own_agrees l s a k) why in
    subst (λ (u : Model). LayerAgrees m u) (sym (cond-false (takes? s.size (own s) k x) taken s is))
    (subst (λ (n : Layer Face). LayerAgrees n s) (sym (did.refused why)) a))
    (cases_takes (layer_face l) k x)
layer_step_lem (carries r) l m s a did = record {
  below = same_agrees did.below.0 m.below s.size (pass_down r s).told did.below.2 (passed_held r l s did.below.0 a did.below.1);
  held = did.held ∙ ap (λ (ts : List Telling). drop r ts) a.held;
}
layer_step_lem settles l m s a did = record {
  below = same_agrees did.below.0 m.below s.size (told_after_all s.size s.held s.told) did.below.2.same
      (passed_agrees s.held l.below did.below.0 s.size s.told a.below (subst (λ (ts : List Telling). Run BoardDoes (calls ts) l.below did.below.0) a.held did.below.1));
  held = did.held;
}

pub layer_run_lem : (cs : List Call) (l m : Layer Face) (s : Model) → LayerAgrees l s → Run AnyLayerDoes cs l m → LayerAgrees m (layer_run cs s)
layer_run_lem [] l m s a is = subst (λ (h : Layer Face). LayerAgrees h s) is a
layer_run_lem (c ∷ cs) l m s a (k, did, rest) = layer_run_lem cs k m (layer_step c s) (layer_step_lem c l k s a did) rest

-- the model of a layer as it stands
abbrev pub model_of : Layer Face → Model
model_of l = record { size = l.below.size; told = l.below.told; held = l.held }

-- what a layer is after calls is what the model is
pub layer_after : (cs : List Call) (l m : Layer Face) → Run AnyLayerDoes cs l m → LayerAgrees m (layer_run cs (model_of l))
layer_after cs l m run = layer_run_lem cs l m (model_of l) (record { below = record { size = refl; told = λ k. refl }; held = refl }) run
