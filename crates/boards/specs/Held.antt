-- Tellings that are held back.
use Rattle.std.specs.Prelude.{take, length, zero, suc, Option, None, Some, find, reverse, unwrap_or, ◌≡◌, ℕ, ◌+◌, ◌<◌, ◌≤◌, ◌≢◌, cond, List, [], ◌∷◌, ◌++◌, ◌==◌, refl}
use Rattle.std.specs.Option.{option_map}
use Rattle.std.proofs.Common.{sym, subst, arith, le_refl, le_trans}
use Rattle.std.proofs.lemmas.Bool.Decides.{nat_tests}
use Rattle.std.proofs.lemmas.List.{map_more}
use Rattle.std.proofs.lemmas.List.Folds.{find-append}
use Rattle.std.proofs.lemmas.Grind.{common_steps, reverse_onto}
use Rattle.boards.specs.declared.tellings.Telling.{Telling}
use Rattle.boards.specs.Calls.{Call, Run}
use Rattle.boards.specs.Tellings.{call, calls, telling_at, newest, NewestAt, Seated, Climbs}

-- the newest telling for a seat is the first that a search from the back finds
pub newest_found : (ts : List Telling) (k x : ℕ) → newest ts k x ≡ unwrap_or (option_map (λ t. t.price) (find (λ t. k == t.seat) (reverse ts))) x
newest_found [] k x = refl
newest_found (t ∷ ts) k x = grind (arith, common_steps, newest_found ts k (cond (k == t.seat) t.price x), find-append (λ (u : Telling). k == u.seat) (reverse ts) (t ∷ []), reverse_onto ts t [])

pub newest_is : (ts us : List Telling) (k x : ℕ) (found : Option ℕ) → us ≡ ts → found ≡ option_map (λ t. t.price) (find (λ t. k == t.seat) (reverse us)) → unwrap_or found x ≡ newest ts k x
newest_is ts us k x found same is = rw (is, same) (sym (newest_found ts k x))

-- a search from the back finds no telling for a seat that none is for
pub found_none : (ts : List Telling) (k : ℕ) → ((j : ℕ) → j < length ts → (telling_at ts j).seat ≢ k) → find (λ t. k == t.seat) (reverse ts) ≡ None
found_none [] k h = refl
found_none (t ∷ ts) k h = grind (arith, common_steps, nat_tests, found_none ts k (λ j l. h (suc j) (omega arith)), h 0 (omega arith), find-append (λ (u : Telling). k == u.seat) (reverse ts) (t ∷ []), reverse_onto ts t [])

-- and the one after which none is for that seat
pub found_some : (ts : List Telling) (k i : ℕ) → i < length ts → (telling_at ts i).seat ≡ k → ((j : ℕ) → i < j → j < length ts → (telling_at ts j).seat ≢ k) → find (λ t. k == t.seat) (reverse ts) ≡ Some (telling_at ts i)
found_some [] k i l e h = absurd (omega arith)
found_some (t ∷ ts) k zero l e h = grind (arith, common_steps, nat_tests, found_none ts k (λ j b. h (suc j) (omega arith) (omega arith)), find-append (λ (u : Telling). k == u.seat) (reverse ts) (t ∷ []), reverse_onto ts t [])
found_some (t ∷ ts) k (suc i) l e h = grind (arith, common_steps, nat_tests, found_some ts k i (omega arith) e (λ j b c. h (suc j) (omega arith) (omega arith)), find-append (λ (u : Telling). k == u.seat) (reverse ts) (t ∷ []), reverse_onto ts t [])

pub found_at : (ts : List Telling) (k : ℕ) (place : Option ℕ) → NewestAt ts k place → find (λ t. k == t.seat) (reverse ts) ≡ option_map (λ i. telling_at ts i) place
found_at ts k None h = found_none ts k h
found_at ts k (Some i) h = found_some ts k i h.0 h.1 h.2

-- one call more, the last
pub run_push : {S : Type 0} (Does : Call → S → S → Type 0) (cs : List Call) (c : Call) (a m b : S) → Run Does cs a m → Does c m b → Run Does (cs ++ c ∷ []) a b
run_push Does [] c a m b is did = (b, rw is did, refl)
run_push Does (d ∷ cs) c a m b (n, first, rest) did = (n, first, run_push Does cs c n m b rest did)

-- one telling more is told, the next
pub run_next : {S : Type 0} (Does : Call → S → S → Type 0) (ts : List Telling) (i : ℕ) (a m b : S) → i < length ts → Run Does (calls (take i ts)) a m → Does (call (telling_at ts i)) m b → Run Does (calls (take (i + 1) ts)) a b
run_next {S} Does ts i a m b h ran did =
    let more : calls (take i ts) ++ call (telling_at ts i) ∷ [] ≡ calls (take (i + 1) ts) = sym (map_more call ts i (record { seat = 0; price = 0 }) h) in
    subst (λ (cs : List Call). Run Does cs a b) more (run_push Does (calls (take i ts)) (call (telling_at ts i)) a m b ran did)

-- one telling more, the newest
pub newest_push : (ts : List Telling) (t : Telling) (k x : ℕ) → newest (ts ++ (t ∷ [])) k x ≡ cond (k == t.seat) t.price (newest ts k x)
newest_push [] t k x = refl
newest_push (s ∷ ts) t k x = newest_push ts t k (cond (k == s.seat) s.price x)

pub seated_push : (ts : List Telling) (t : Telling) (n : ℕ) → Seated n ts → t.seat < n → Seated n (ts ++ (t ∷ []))
seated_push [] t n h l = (l, tt)
seated_push (s ∷ ts) t n h l = (h.0, seated_push ts t n h.1 l)

pub climbs_push : (ts : List Telling) (t : Telling) (k x : ℕ) → Climbs ts k x → (k ≡ t.seat → newest ts k x ≤ t.price) → Climbs (ts ++ (t ∷ [])) k x
climbs_push [] t k x h l = (l, tt)
climbs_push (s ∷ ts) t k x h l = (h.0, climbs_push ts t k (cond (k == s.seat) s.price x) h.1 l)

-- the first of them is no lower than where they start
pub first_above : (t : Telling) (k x : ℕ) → (k ≡ t.seat → x ≤ t.price) → x ≤ cond (k == t.seat) t.price x
first_above t k x h = grind (arith, nat_tests)

-- nor is the newest
pub newest_above : (ts : List Telling) (k x : ℕ) → Climbs ts k x → x ≤ newest ts k x
newest_above [] k x h = le_refl x
newest_above (t ∷ ts) k x h = le_trans (first_above t k x h.0) (newest_above ts k (cond (k == t.seat) t.price x) h.1)
