-- The rules of a ledger once a bid has landed.
use Rattle.std.proofs.Common.{◌≡◌, ℕ, ◌+◌, ◌*◌, ◌<◌, ◌≤◌, false, ◌≢◌, List, length, get_or, set, is_some as option_is_some, Some, None, Option, sym, refl, ap, ◌∙◌, subst, arith, length-set, get_or-set_other, get_or-set_same}
use Rattle.std.proofs.lemmas.Option.{none-some}
use native.Mathlib.Decide.{ℕ_discrete}
use Rattle.auction.proofs.Holders.{is_some}
use Rattle.ledgers.specs.declared.books.Bid.{Bid}
use Rattle.ledgers.specs.declared.ledger.Ledger.{Ledger}
use Rattle.ledgers.specs.Rules.{phase_rise, count, Waiting, Below, Returned, UpTo}
use Rattle.ledgers.specs.Books.{seat_at, holder_at, freed, seated_after}
use Rattle.ledgers.specs.Ledgers.{size_of, Deliverable}
use Rattle.ledgers.proofs.Entries.{each_set, is_none, names_some, some_names, count_none, count_some}

-- the seats z of a ledger's runs once the run that holds seat j, if any, is free
pub record Freed (l : Ledger) (j : ℕ) (z : List (Option ℕ)) : Type 0 where
  pub displaced : (r : ℕ) → seat_at l.book r ≡ Some j → get_or z r None ≡ None
  pub kept : (r : ℕ) → (seat_at l.book r ≡ Some j → ⊥) → get_or z r None ≡ seat_at l.book r
  pub long : length z ≡ length l.book.seats
  pub counted : seated_after (count l.book.seats) (holder_at l.book j) ≡ count z + 1

-- the run on a seat holds it, and the run that holds it is on it
pub on_seat : (l : Ledger) (j r : ℕ) → holder_at l.book j ≡ Some r → seat_at l.book r ≡ Some j
on_seat l j r e = names_some (seat_at l.book r) j (l.held j r e)

pub seat_on : (l : Ledger) (r j : ℕ) → seat_at l.book r ≡ Some j → holder_at l.book j ≡ Some r
seat_on l r j e = names_some (holder_at l.book j) r (l.holding r j e)

freed_seats : (l : Ledger) (j : ℕ) (o : Option ℕ) → holder_at l.book j ≡ o → Freed l j (freed l.book.seats (holder_at l.book j))
freed_seats l j None e = subst (λ (o : Option ℕ). Freed l j (freed l.book.seats o)) (sym e) (record {
  displaced = λ r h. absurd (none-some r (sym e ∙ seat_on l r j h));
  kept = λ r n. refl;
  long = refl;
  counted = ap (seated_after (count l.book.seats)) e;
})
freed_seats l j (Some r) e = subst (λ (o : Option ℕ). Freed l j (freed l.book.seats o)) (sym e) (record {
  displaced = λ u h.
      let f : holder_at l.book j ≡ Some u = seat_on l u j h in
      let q : u ≡ r = cc in
      subst (λ (v : ℕ). get_or (set l.book.seats r None) v None ≡ None) (sym q) (get_or-set_same l.book.seats r None None (omega (arith, (l.runs j r e).1, l.sized.1, l.whole.0)));
  kept = λ u n. get_or-set_other l.book.seats r u None None (λ q. n (subst (λ (v : ℕ). seat_at l.book v ≡ Some j) (sym q) (on_seat l j r e)));
  long = length-set l.book.seats r None;
  counted = ap (seated_after (count l.book.seats)) e ∙ sym (count_none l.book.seats r j (on_seat l j r e));
})

-- run i's bid x takes seat j, and z are the seats of the runs once the run displaced, if any, is free, and ps the prices once the bid's stands
pub record Takes (l : Ledger) (i : ℕ) (x : Bid) (j : ℕ) (z : List (Option ℕ)) (ps : List ℕ) : Type 0 where
  pub bid : Deliverable l.book i x
  pub seat : j ≡ x.seat
  pub seats : z ≡ freed l.book.seats (holder_at l.book j)
  pub prices : ps ≡ set l.book.prices.prices j x.price

module _ {l : Ledger} {i : ℕ} {x : Bid} {j : ℕ} {z : List (Option ℕ)} {ps : List ℕ} (f : Takes l i x j z ps) where
  pub freed_z : Freed l j z
  freed_z = subst (Freed l j) (sym f.seats) (freed_seats l j (holder_at l.book j) refl)

  pub low_j : j < size_of l
  low_j = omega (arith, f.seat, (l.fit i x f.bid.out).0)

  pub free_i : seat_at l.book i ≡ None
  free_i = is_none (seat_at l.book i) (l.waiting i x f.bid.out)

  z_i : get_or z i None ≡ None
  z_i = freed_z.kept i (λ e. absurd (none-some j (sym free_i ∙ e))) ∙ free_i

  pub seat_here : get_or (set z i (Some x.seat)) i None ≡ Some j
  seat_here = get_or-set_same z i (Some x.seat) None (omega (arith, freed_z.long, f.bid.low, l.sized.1, l.whole.0)) ∙ ap Some (sym f.seat)

  pub seat_other : (r : ℕ) → r ≢ i → get_or (set z i (Some x.seat)) r None ≡ get_or z r None
  seat_other r h = get_or-set_other z i r (Some x.seat) None h

  holder_here : get_or (set l.book.holders j (Some i)) j None ≡ Some i
  holder_here = get_or-set_same l.book.holders j (Some i) None (omega (arith, low_j, l.sized.1, l.whole.1))

  holder_other : (a : ℕ) → a ≢ j → get_or (set l.book.holders j (Some i)) a None ≡ holder_at l.book a
  holder_other a h = get_or-set_other l.book.holders j a (Some i) None h

  -- a seat of a run other than i is the one that it had, and is not the bid's
  before : (r a : ℕ) → r ≢ i → get_or (set z i (Some x.seat)) r None ≡ Some a → (seat_at l.book r ≡ Some a) × (a ≢ j)
  before r a h e = go (is_some (seat_at l.book r) j)
    where
      zr : get_or z r None ≡ Some a
      zr = sym (seat_other r h) ∙ e

      go : Dec (seat_at l.book r ≡ Some j) → (seat_at l.book r ≡ Some a) × (a ≢ j)
      go (yes g) = absurd (none-some a (sym (freed_z.displaced r g) ∙ zr))
      go (no g) = let s : seat_at l.book r ≡ Some a = sym (freed_z.kept r g) ∙ zr in (s, λ q. g (s ∙ ap Some q))

  -- a run other than i that has a seat other than the bid's keeps it
  after : (r a : ℕ) → r ≢ i → seat_at l.book r ≡ Some a → a ≢ j → get_or (set z i (Some x.seat)) r None ≡ Some a
  after r a h s n = seat_other r h ∙ freed_z.kept r (λ g. let q : a ≡ j = cc in n q) ∙ s

  pub waiting_landed : Waiting (set z i (Some x.seat)) (set l.book.bids i None)
  waiting_landed r y e = go (ℕ_discrete r i) (is_some (seat_at l.book r) j)
    where
      go : Dec (r ≡ i) → Dec (seat_at l.book r ≡ Some j) → option_is_some (get_or (set z i (Some x.seat)) r None) ≡ false
      go (yes q) g = absurd (none-some y (sym (get_or-set_same l.book.bids i None None (omega (arith, f.bid.low, l.sized.1, l.whole.2))) ∙ ap (λ (v : ℕ). get_or (set l.book.bids i None) v None) (sym q) ∙ e))
      go (no h) (yes g) = ap option_is_some (seat_other r h ∙ freed_z.displaced r g)
      go (no h) (no g) = ap option_is_some (seat_other r h ∙ freed_z.kept r g) ∙ l.waiting r y (sym (get_or-set_other l.book.bids i r None None h) ∙ e)

  pub places_landed : Below (size_of l) (set z i (Some x.seat))
  places_landed r a e = go (ℕ_discrete r i)
    where
      go : Dec (r ≡ i) → (r < size_of l) × (a < size_of l)
      go (yes q) = let w : get_or (set z i (Some x.seat)) r None ≡ Some j = ap (λ (v : ℕ). get_or (set z i (Some x.seat)) v None) q ∙ seat_here in let v : a ≡ j = cc in (omega (arith, q, f.bid.low), omega (arith, v, low_j))
      go (no h) = l.places r a (before r a h e).0

  pub runs_landed : Below (size_of l) (set l.book.holders j (Some i))
  runs_landed a r e = go (ℕ_discrete a j)
    where
      go : Dec (a ≡ j) → (a < size_of l) × (r < size_of l)
      go (yes q) = let w : get_or (set l.book.holders j (Some i)) a None ≡ Some i = ap (λ (v : ℕ). get_or (set l.book.holders j (Some i)) v None) q ∙ holder_here in let v : r ≡ i = cc in (omega (arith, q, low_j), omega (arith, v, f.bid.low))
      go (no h) = l.runs a r (sym (holder_other a h) ∙ e)

  pub held_landed : Returned (set l.book.holders j (Some i)) (set z i (Some x.seat))
  held_landed a r e = some_names (get_or (set z i (Some x.seat)) r None) a (go (ℕ_discrete a j))
    where
      go : Dec (a ≡ j) → get_or (set z i (Some x.seat)) r None ≡ Some a
      go (yes q) = let w : get_or (set l.book.holders j (Some i)) a None ≡ Some i = ap (λ (v : ℕ). get_or (set l.book.holders j (Some i)) v None) q ∙ holder_here in let v : r ≡ i = cc in ap (λ (u : ℕ). get_or (set z i (Some x.seat)) u None) v ∙ seat_here ∙ ap Some (sym q)
      go (no h) =
          let s : seat_at l.book r ≡ Some a = on_seat l a r (sym (holder_other a h) ∙ e) in
          after r a (λ q. absurd (none-some a (sym free_i ∙ ap (seat_at l.book) (sym q) ∙ s))) s h

  pub holding_landed : Returned (set z i (Some x.seat)) (set l.book.holders j (Some i))
  holding_landed r a e = some_names (get_or (set l.book.holders j (Some i)) a None) r (go (ℕ_discrete r i))
    where
      go : Dec (r ≡ i) → get_or (set l.book.holders j (Some i)) a None ≡ Some r
      go (yes q) = let w : get_or (set z i (Some x.seat)) r None ≡ Some j = ap (λ (v : ℕ). get_or (set z i (Some x.seat)) v None) q ∙ seat_here in let v : a ≡ j = cc in ap (λ (u : ℕ). get_or (set l.book.holders j (Some i)) u None) v ∙ holder_here ∙ ap Some (sym q)
      go (no h) = let s = before r a h e in holder_other a s.1 ∙ seat_on l r a s.0

  pub long_landed : length ps ≡ length l.book.prices.prices
  long_landed = ap (λ (ys : List ℕ). length ys) f.prices ∙ length-set l.book.prices.prices j x.price

  pub priced_landed : UpTo (l.book.phase * phase_rise) ps
  priced_landed = subst (UpTo (l.book.phase * phase_rise)) (sym f.prices) (each_set 0 (λ a p. p ≤ l.book.phase * phase_rise) l.book.prices.prices j x.price l.priced (l.fit i x f.bid.out).1)

  pub filled_landed : seated_after l.book.seated (holder_at l.book j) ≡ count (set z i (Some x.seat))
  filled_landed = ap (λ (n : ℕ). seated_after n (holder_at l.book j)) l.filled ∙ freed_z.counted ∙ sym (count_some z i x.seat (omega (arith, freed_z.long, f.bid.low, l.sized.1, l.whole.0)) z_i)
