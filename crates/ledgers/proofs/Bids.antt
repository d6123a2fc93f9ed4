-- The rules of a book's bids, once one is put in or taken out.
use Rattle.std.proofs.Common.{◌≡◌, ℕ, ◌<◌, ◌≤◌, false, List, get_or, set, is_some, Some, None, Option, ap, subst}
use Rattle.std.proofs.lemmas.Option.{none-some}
use Rattle.ledgers.specs.declared.books.Bid.{Bid}
use Rattle.ledgers.specs.Rules.{BidsFit, Waiting}
use Rattle.ledgers.proofs.Entries.{each_set}

pub fit_some : (n h : ℕ) (bids : List (Option Bid)) (i : ℕ) (x : Bid) → BidsFit n h bids → (x.seat < n) × (x.price ≤ h) → BidsFit n h (set bids i (Some x))
fit_some n h bids i x f p = each_set None (λ r o. (y : Bid) → o ≡ Some y → (y.seat < n) × (y.price ≤ h)) bids i (Some x) f (λ y q. let w : x ≡ y = cc in subst (λ (v : Bid). (v.seat < n) × (v.price ≤ h)) w p)

pub fit_none : (n h : ℕ) (bids : List (Option Bid)) (i : ℕ) → BidsFit n h bids → BidsFit n h (set bids i None)
fit_none n h bids i f = each_set None (λ r o. (y : Bid) → o ≡ Some y → (y.seat < n) × (y.price ≤ h)) bids i None f (λ y q. absurd (none-some y q))

pub waiting_some : (seats : List (Option ℕ)) (bids : List (Option Bid)) (i : ℕ) (x : Bid) → Waiting seats bids → get_or seats i None ≡ None → Waiting seats (set bids i (Some x))
waiting_some seats bids i x w e = each_set None (λ r o. (y : Bid) → o ≡ Some y → is_some (get_or seats r None) ≡ false) bids i (Some x) w (λ y q. ap is_some e)

pub waiting_none : (seats : List (Option ℕ)) (bids : List (Option Bid)) (i : ℕ) → Waiting seats bids → Waiting seats (set bids i None)
waiting_none seats bids i w = each_set None (λ r o. (y : Bid) → o ≡ Some y → is_some (get_or seats r None) ≡ false) bids i None w (λ y q. absurd (none-some y q))
