-- The writes of a book are the market's events.
use Rattle.std.proofs.Common.{◌≡◌, ℕ, suc, ◌+◌, ◌-◌, ◌<◌, ◌≤◌, ◌≢◌, List, ◌∷◌, length, get_or, take, drop, set, true, is_some as option_is_some, Some, None, Option, sym, refl, ap, ◌∙◌, subst, arith, rules, length-take, drop-cons, get_or-set_other, get_or-take, get_or-set_same}
use Rattle.std.proofs.lemmas.Option.{none-some}
use Rattle.std.proofs.lemmas.Bool.{eqb-true, ltb-true}
use Rattle.fault.specs.Checks.{Passes}
use Rattle.points.specs.Tables.{Table}
use Rattle.ledgers.specs.declared.books.Bid.{Bid}
use Rattle.ledgers.specs.declared.books.Book.{Book}
use Rattle.ledgers.specs.declared.books.Conditions.{Conditions}
use Rattle.ledgers.specs.declared.books.Counts.{Counts}
use Rattle.ledgers.specs.declared.ledger.Ledger.{Ledger}
use Rattle.points.specs.Limits.{size_limit}
use Rattle.auction.specs.Limits.{allowance_limit}
use Rattle.ledgers.specs.Rules.{count}
use Rattle.ledgers.specs.Books.{price_at, seat_at, holder_at, bid_at, increment_of, ladder_of, dropped, blank, advanced}
use Rattle.auction.specs.Changes.{BidSet}
use Rattle.auction.specs.Events.{Dropped, Highest}
use Rattle.ledgers.specs.Ledgers.{bid_of, view_of, unshown, Deliverable, Lands, Outbids, Recalls, Advances}
use Rattle.ledgers.specs.Opening.{Copied}
use Rattle.auction.specs.Runs.{Ladder, Opened}
use Rattle.ledgers.specs.Refusals.{advance_checks}
use Rattle.ledgers.proofs.Entries.{same, not_some, some_of, count_full}
use Rattle.ledgers.proofs.Landings.{Takes, freed_z, low_j, free_i, on_seat, seat_on, seat_here, seat_other}
use Rattle.ledgers.proofs.Ladders.{Passed, take_copied}

pub opened_view : (c : Conditions) (xs : List ℕ) → Passed xs → Copied xs c.increments → c.phases ≡ length xs → 1 ≤ c.allowance → c.allowance ≤ allowance_limit → Opened (view_of (blank c) unshown) × (increment_of (blank c) ∷ drop 1 (ladder_of (blank c)) ≡ xs)
opened_view c xs p s e a l =
    let first : get_or c.increments 0 0 ≡ get_or xs 0 0 = s.same 0 in
    let long : length xs ≤ length c.increments = omega (arith, p.few, s.long) in
    let whole : take c.phases c.increments ≡ xs = ap (λ (n : ℕ). take n c.increments) e ∙ take_copied xs c.increments s.same long in (
      record {
        ladder = subst (λ (x : ℕ). Ladder x (drop 1 (take c.phases c.increments))) (sym first) (subst (λ (ys : List ℕ). Ladder (get_or xs 0 0) (drop 1 ys)) (sym whole) p.ladder);
        some = a;
        allowance = l;
        price = λ k. same {A = ℕ} size_limit 0 k;
        seat = λ i. same {A = Option ℕ} size_limit None i;
        bid = λ i. ap bid_of (same {A = Option Bid} size_limit None i);
        shown = λ i k. refl;
        mark = refl;
        phase = refl;
        high = refl;
        composed = refl;
        accepted = refl;
        outbid = refl;
        recalled = refl;
        phase_accepted = refl;
      },
      ap (λ (x : ℕ). x ∷ drop 1 (take c.phases c.increments)) first ∙ ap (λ (ys : List ℕ). get_or xs 0 0 ∷ drop 1 ys) whole ∙ p.whole,
    )

-- run i's bid once it is out no more
bid_none : (b c : Book) (shown shown' : ℕ → ℕ → ℕ) (i : ℕ) → i < length b.bids → c.bids ≡ set b.bids i None → BidSet (view_of b shown) (view_of c shown') i None
bid_none b c shown shown' i l e = record {
  here = ap (λ (xs : List (Option Bid)). bid_of (get_or xs i None)) e ∙ ap bid_of (get_or-set_same b.bids i None None l);
  other = λ r h. ap (λ (xs : List (Option Bid)). bid_of (get_or xs r None)) e ∙ ap bid_of (get_or-set_other b.bids i r None None h);
}

dropped_view : (l : Ledger) (i : ℕ) (x : Bid) (d : Counts) (t : Table) (shown : ℕ → ℕ → ℕ) → i < t.size → t.size ≡ l.book.conditions.size → bid_at l.book i ≡ Some x → d.phase_accepted ≡ l.book.counts.phase_accepted → Dropped t (view_of l.book shown) (view_of (dropped l.book i d) shown) i (record { seat = x.seat; price = x.price })
dropped_view l i x d t shown n z e p = record {
  low = n;
  out = ap bid_of e;
  phase = search rules;
  seats = record { price = λ k. refl; seat = λ r. refl; accepted = p };
  bids = bid_none l.book (dropped l.book i d) shown shown i (omega (arith, n, z, l.sized.1, l.whole.2)) refl;
  shown = λ r k. refl;
  mark = refl;
}

pub outbids_view : (l : Ledger) (i : ℕ) (x : Bid) → Deliverable l.book i x → x.price < price_at l.book x.seat + increment_of l.book → Outbids l.book (dropped l.book i (record l.book.counts { outbid = l.book.counts.outbid + 1 })) i x.seat (price_at l.book x.seat)
outbids_view l i x y s = (
  refl,
  λ t shown e. record {
    unmarked = y.unmarked;
    offer = x.price;
    dropped = dropped_view l i x _ t shown (omega (arith, e, y.low)) e y.out refl;
    price = refl;
    little = s;
    counts = search rules;
  },
)

pub recalls_view : (l : Ledger) (i : ℕ) → i < l.book.conditions.size → option_is_some (bid_at l.book i) ≡ true → Recalls l.book (dropped l.book i (record l.book.counts { recalled = l.book.counts.recalled + 1 })) i
recalls_view l i n o =
    let x = some_of (bid_at l.book i) o in (
      refl,
      λ t shown e. record {
        bid = record { seat = x.0.seat; price = x.0.price };
        dropped = dropped_view l i x.0 _ t shown (omega (arith, e, n)) e x.1 refl;
        counts = search rules;
      },
    )

-- the book once run i's bid x has landed on seat j, with z the other runs' seats, ps the prices and n runs seated
abbrev pub landed : Book → ℕ → Bid → ℕ → List (Option ℕ) → List ℕ → ℕ → Book
landed b i x j z ps n = record b {
  prices = record { prices = ps };
  seats = set z i (Some x.seat);
  holders = set b.holders j (Some i);
  seated = n;
  bids = set b.bids i None;
  counts = record b.counts { accepted = b.counts.accepted + 1; phase_accepted = b.counts.phase_accepted + 1 };
}

module _ {l : Ledger} {i : ℕ} {x : Bid} {j : ℕ} {z : List (Option ℕ)} {ps : List ℕ} (f : Takes l i x j z ps) where
  -- run i holds no seat while its bid is out
  apart : (r : ℕ) → seat_at l.book r ≡ Some j → r ≢ i
  apart r h q = absurd (none-some j (sym (free_i f) ∙ ap (seat_at l.book) (sym q) ∙ h))

  pub lands_view : (n : ℕ) (d : Option ℕ) → d ≡ holder_at l.book j → price_at l.book x.seat + increment_of l.book ≤ x.price → Lands l.book (landed l.book i x j z ps n) i j x.price d
  lands_view n d q enough = (
    refl,
    λ t shown shown' e told. record {
      low = omega (arith, e, f.bid.low);
      unmarked = f.bid.unmarked;
      out = subst (λ (k : ℕ). bid_of (bid_at l.book i) ≡ Some (record { seat = k; price = x.price })) (sym f.seat) (ap bid_of f.bid.out);
      enough = subst (λ (k : ℕ). price_at l.book k + increment_of l.book ≤ x.price) (sym f.seat) enough;
      counts = search rules;
      phase = search rules;
      accepted = refl;
      raised = ap (λ (ys : List ℕ). get_or ys j 0) f.prices ∙ get_or-set_same l.book.prices.prices j x.price 0 (omega (arith, low_j f, l.sized.1, l.long.0));
      prices = λ a h. ap (λ (ys : List ℕ). get_or ys a 0) f.prices ∙ get_or-set_other l.book.prices.prices j a x.price 0 h;
      displaced = record {
        holds = λ r h. let s : seat_at l.book r ≡ Some j = on_seat l j r (sym q ∙ h) in (apart r s, s);
        named = λ r h s. q ∙ seat_on l r j s;
      };
      seated = seat_here f;
      freed = λ r h. let s : seat_at l.book r ≡ Some j = on_seat l j r (sym q ∙ h) in seat_other f r (apart r s) ∙ (freed_z f).displaced r s;
      kept = λ r h n. seat_other f r h ∙ (freed_z f).kept r (λ s. n (q ∙ seat_on l r j s));
      bids = bid_none l.book (landed l.book i x j z ps n) shown shown' i (omega (arith, f.bid.low, l.sized.1, l.whole.2)) refl;
      shown = told;
      mark = refl;
    },
  )

pub advances_view : (l : Ledger) (h : ℕ) → Passes (advance_checks l.book) → Highest l.book.conditions.size (price_at l.book) h → Advances l.book (advanced l.book h)
advances_view l h p top =
    let b : Book = l.book in
    let low : b.phase < b.conditions.phases = ltb-true _ _ p.1.1 in
    let back : b.phase ≡ b.phase + 1 - 1 = omega arith in
    let next : suc b.phase ≡ b.phase + 1 = omega arith in (
      refl,
      λ t shown e. record {
        unmarked = not_some b.mark p.0;
        seated = λ i n. count_full b.seats b.conditions.size (λ a x q. (l.places a x q).0) (eqb-true (count b.seats) b.conditions.size p.1.0) i (omega (arith, e, n));
        ladder =
            drop-cons (ladder_of b) b.phase 0 (subst (λ (n : ℕ). b.phase < n) (sym (length-take b.conditions.phases b.conditions.increments)) (omega (arith, l.phased.2, l.long.1, low)))
            ∙ ap (λ (v : ℕ). v ∷ drop (suc b.phase) (ladder_of b)) (get_or-take b.conditions.phases b.conditions.increments b.phase 0 low)
            ∙ ap (λ (n : ℕ). get_or b.conditions.increments n 0 ∷ drop (suc b.phase) (ladder_of b)) back
            ∙ ap (λ (n : ℕ). get_or b.conditions.increments (b.phase + 1 - 1) 0 ∷ drop n (ladder_of b)) next;
        phase = refl;
        high = subst (λ (n : ℕ). Highest n (price_at b) h) (sym e) top;
        counts = search rules;
        accepted = refl;
        price = λ a. refl;
        seat = λ i. same {A = Option ℕ} size_limit None i;
        bids = λ r. refl;
        shown = λ r a. refl;
        mark = refl;
      },
    )
