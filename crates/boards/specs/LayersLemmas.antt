-- A delay layer is again a board: what its calls do to the layer they do to its face as a board's do.
use Rattle.std.specs.Prelude.{◌≡◌, ℕ, ◌<◌, ◌≤◌, cond, ◌⊎◌, List, [], ◌∷◌, ◌++◌, take, drop, ◌==◌, refl}
use Rattle.std.proofs.Common.{sym, ap, subst, ◌∙◌, ⊎_elim, arith}
use Rattle.std.proofs.lemmas.List.{append-nil, take-append-drop}
use Rattle.std.proofs.lemmas.Bool.Decides.{nat_tests}
use Rattle.boards.specs.declared.tellings.Telling.{Telling}
use Rattle.boards.specs.Calls.{Run}
use Rattle.boards.specs.Faces.{Face, Told, Carried, Settled, SameTold, Takes, Refuses, BoardDoes, within}
use Rattle.boards.specs.Tellings.{newest, Seated, Climbs, calls}
use Rattle.boards.specs.Layers.{Layer, layer_face, Steady, LayerTold, LayerCarried, LayerSettled, due}
use Rattle.boards.specs.Places.{inside}
use Rattle.boards.specs.FacesLemmas.{told_is, cases_takes, not_both, told_nothing}
use Rattle.boards.specs.Held.{newest_push, seated_push, climbs_push, newest_above}

-- f became g when the first of the tellings passed down: those left are steady over g, and their newest is as it was
pub record Moved (all left : List Telling) (f g : Face) : Type 0 where
  pub size : g.size ≡ f.size
  pub steady : Steady (record { below = g; held = left })
  pub newest : (k : ℕ) → newest left k (g.told k) ≡ newest all k (f.told k)

pub moved : (ts us : List Telling) (f g : Face) → Steady (record { below = f; held = ts ++ us }) → Run BoardDoes (calls ts) f g → Moved (ts ++ us) us f g
moved [] us f g s p = subst (λ (e : Face). Moved us us f e) p (record { size = refl; steady = s; newest = λ k. refl })
moved (t ∷ ts) us f g s (m, told, rest) =
    let after : (k : ℕ) → m.told k ≡ cond (k == t.seat) t.price (f.told k) = told_is f m t.seat t.price told (s.seated.0, (s.climbs t.seat).0 refl) in
    let steady : Steady (record { below = m; held = ts ++ us }) = record {
      seated = subst (λ (n : ℕ). Seated n (ts ++ us)) (sym told.size) s.seated.1;
      climbs = λ k. subst (λ (x : ℕ). Climbs (ts ++ us) k x) (sym (after k)) (s.climbs k).1;
    } in
    let later : Moved (ts ++ us) us m g = moved ts us m g steady rest in
    record {
      size = later.size ∙ told.size;
      steady = later.steady;
      newest = λ k. later.newest k ∙ ap (λ (x : ℕ). newest (ts ++ us) k x) (after k);
    }

-- so it is for the first n of the tellings held
pub moved_first : (n : ℕ) (l : Layer Face) (g : Face) → Steady l → Run BoardDoes (calls (take n l.held)) l.below g → Moved l.held (drop n l.held) l.below g
moved_first n l g s p =
    let ts : List Telling = l.held in
    let whole : take n ts ++ drop n ts ≡ ts = take-append-drop n ts in
    subst (λ (us : List Telling). Moved us (drop n ts) l.below g) whole
    (moved (take n ts) (drop n ts) l.below g (subst (λ (us : List Telling). Steady (record { below = l.below; held = us })) (sym whole) s) p)

-- the same tellings over a board below with the same told prices
pub steady_same : (ts : List Telling) (f g : Face) → SameTold f g → Steady (record { below = f; held = ts }) → Steady (record { below = g; held = ts })
steady_same ts f g same s = record {
  seated = subst (λ (n : ℕ). Seated n ts) (sym same.size) s.seated;
  climbs = λ k. subst (λ (x : ℕ). Climbs ts k x) (sym (same.told k)) (s.climbs k);
}

-- a layer's told price, by parts that are equal
pub told_same : (n m k : ℕ) (x y : ℕ) → n ≡ m → x ≡ y → within n k x ≡ within m k y
told_same n m k x y p q = ap (λ (j : ℕ). within j k x) p ∙ ap (λ (z : ℕ). within m k z) q

-- the layer keeps its told prices when tellings pass down
pub moved_same : (l : Layer Face) (left : List Telling) (g h : Face) → Moved l.held left l.below g → SameTold g h → SameTold (layer_face l) (layer_face (record { below = h; held = left }))
moved_same l left g h mv same = record {
  size = same.size ∙ mv.size;
  told = λ k. told_same h.size l.below.size k (newest left k (h.told k)) (newest l.held k (l.below.told k)) (same.size ∙ mv.size) (ap (λ (x : ℕ). newest left k x) (same.told k) ∙ mv.newest k);
}

abbrev Stands : Layer Face → Layer Face → Type 0
Stands l m = SameTold (layer_face l) (layer_face m) × Steady m

pub carried_layer : (l m : Layer Face) (r : ℕ) → Steady l → LayerCarried BoardDoes l m r → Carried (layer_face l) (layer_face m) × Steady m
carried_layer l m r s did =
    let f : Face = did.below.0 in
    let mv : Moved l.held (drop r l.held) l.below f = moved_first r l f s did.below.1 in
    subst (λ (ts : List Telling). Stands l (record { below = m.below; held = ts })) (sym did.held)
    (moved_same l (drop r l.held) f m.below mv did.below.2, steady_same (drop r l.held) f m.below did.below.2 mv.steady)

pub settled_layer : (l m : Layer Face) → Steady l → LayerSettled BoardDoes l m → Settled (layer_face l) (layer_face m) × Steady m
settled_layer l m s did =
    let f : Face = did.below.0 in
    let same : SameTold f m.below = did.below.2.same in
    let whole : l.held ++ [] ≡ l.held = append-nil l.held in
    let mv : Moved l.held [] l.below f =
    subst (λ (ts : List Telling). Moved ts [] l.below f) whole
    (moved l.held [] l.below f (subst (λ (ts : List Telling). Steady (record { below = l.below; held = ts })) (sym whole) s) did.below.1) in
    let stands : Stands l m =
    subst (λ (ts : List Telling). Stands l (record { below = m.below; held = ts })) (sym did.held)
    (moved_same l [] f m.below mv same, steady_same [] f m.below same mv.steady) in (
      record {
        same = stands.0;
        level = λ i k h h'. did.below.2.level i k h h' ∙ sym (inside m.below.size k (m.below.told k) h') ∙ ap (λ (ts : List Telling). within m.below.size k (newest ts k (m.below.told k))) (sym did.held);
      },
      stands.1,
    )

-- a telling that is taken: the first n pass down, and one more is held
pub taken_layer : (n : ℕ) (l : Layer Face) (g : Face) (t : Telling) → Steady l → Takes (layer_face l) t.seat t.price → Run BoardDoes (calls (take n l.held)) l.below g
    → Told (layer_face l) (layer_face (record { below = g; held = drop n l.held ++ (t ∷ []) })) t.seat t.price × Steady (record { below = g; held = drop n l.held ++ (t ∷ []) })
taken_layer n l g t s takes passed =
    let f : Face = l.below in
    let us : List Telling = drop n l.held in
    let mv : Moved l.held us f g = moved_first n l g s passed in
    let newer : (k : ℕ) → newest (us ++ (t ∷ [])) k (g.told k) ≡ cond (k == t.seat) t.price (newest l.held k (f.told k)) =
    λ k. newest_push us t k (g.told k) ∙ ap (λ (x : ℕ). cond (k == t.seat) t.price x) (mv.newest k) in
    let seat-in : t.seat < g.size = subst (λ (m : ℕ). t.seat < m) (sym mv.size) takes.0 in
    let high : newest us t.seat (g.told t.seat) ≤ t.price =
    subst (λ (x : ℕ). x ≤ t.price) (inside f.size t.seat (newest l.held t.seat (f.told t.seat)) takes.0 ∙ sym (mv.newest t.seat)) takes.1 in (
      record {
        size = mv.size;
        raised = λ _. grind (arith, nat_tests, newer t.seat);
        others = λ _ k ne. grind (arith, nat_tests, newer k, mv.size);
        refused = λ why. absurd (not_both (layer_face l) t.seat t.price takes why);
      },
      record {
        seated = seated_push us t g.size mv.steady.seated seat-in;
        climbs = λ k. climbs_push us t k (g.told k) (mv.steady.climbs k) (λ e. subst (λ (j : ℕ). newest us j (g.told j) ≤ t.price) (sym e) high);
      },
    )

pub told_layer : (l m : Layer Face) (seat x : ℕ) → Steady l → LayerTold (λ f. f) BoardDoes l m seat x → Told (layer_face l) (layer_face m) seat x × Steady m
told_layer l m seat x s did = ⊎_elim
    (λ (takes : Takes (layer_face l) seat x).
    subst (λ (ts : List Telling). Told (layer_face l) (layer_face (record { below = m.below; held = ts })) seat x × Steady (record { below = m.below; held = ts })) (sym (did.held takes))
    (taken_layer (due l.held) l m.below (record { seat = seat; price = x }) s takes (did.below takes)))
    (λ (why : Refuses (layer_face l) seat x).
    subst (λ (n : Layer Face). Told (layer_face l) (layer_face n) seat x × Steady n) (sym (did.refused why))
    (told_nothing (layer_face l) seat x (λ takes. not_both (layer_face l) seat x takes why), s))
    (cases_takes (layer_face l) seat x)

-- what is shown below the layer is at most the layer's told price
pub layer_behind : (l : Layer Face) → Steady l → ((i k : ℕ) → l.below.shown i k ≤ l.below.told k) → ((i k : ℕ) → (l.below.size ≤ i) ⊎ (l.below.size ≤ k) → l.below.shown i k ≡ 0) → (i k : ℕ) → (layer_face l).shown i k ≤ (layer_face l).told k
layer_behind l s behind unshown i k = grind (arith, nat_tests, behind i k, unshown i k, newest_above l.held k (l.below.told k) (s.climbs k))
