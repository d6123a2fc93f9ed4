use Rattle.std.proofs.Common.{◌≡◌, ℕ, ◌+◌, ◌*◌, ◌/◌, ◌<◌, List, length, take, drop, vec_items, sym, ap, ◌∙◌, zero-add, arith}
use Rattle.std.proofs.lemmas.List.{take_all}
use Rattle.sheets.specs.Bytes.{le16, le64}
use Rattle.sheets.specs.Parts.{le16_part, le64_part}
use Rattle.sheets.specs.CertificateFiles.{Reads}
use Rattle.sheets.proofs.certificate_files.read_certificate.Goals as goal

-- as many values, the same ones
same : (f g : ℕ → ℕ) (m n : ℕ) (xs : List ℕ) → Reads f m xs → m ≡ n → ((i : ℕ) → i < n → f i ≡ g i) → Reads g n xs
same f g m n xs r e h = record { long = r.long ∙ e; each = λ i d l. r.each i d (omega (arith, e)) ∙ h i l }

module _ (bs : List ℕ) (n : ℕ) (long : length bs ≡ 10 * n) where
  seat : (xs : List ℕ) → xs ≡ take (2 * n) bs → (i : ℕ) → i < n → le16 xs (2 * i) ≡ le16 bs (2 * i)
  seat xs is i h = ap (λ (l : List ℕ). le16 l (2 * i)) is ∙ le16_part bs 0 (2 * n) (2 * i) (omega arith) ∙ ap (le16 bs) (zero-add (2 * i))

  price : (xs : List ℕ) → xs ≡ drop (2 * n) bs → length xs + 2 * n ≡ length bs → (k : ℕ) → k < n → le64 xs (8 * k) ≡ le64 bs (2 * n + 8 * k)
  price xs is l k h =
      let all : take (length xs) (drop (2 * n) bs) ≡ drop (2 * n) bs = take_all (length xs) (drop (2 * n) bs) (omega (arith, ap length is)) in
      ap (λ (b : List ℕ). le64 b (8 * k)) (is ∙ sym all) ∙ le64_part bs (2 * n) (length xs) (8 * k) (omega arith)

pub returns : goal.returns
returns c =
    let bs = c.args.bytes.now in
    let n : ℕ = length bs / 10 in
    let long : length bs ≡ 10 * n = omega arith in
    let front = c.seats_and_prices.result.0.now in
    let back = c.seats_and_prices.result.1.now in
    let halves : length front / 2 ≡ n = omega (arith, c.seats_and_prices.ensures.front_len) in
    let eighths : length back / 8 ≡ n = omega (arith, c.seats_and_prices.ensures.back_len) in
    record {
      size = n;
      long = long;
      seats = same (λ i. le16 front (2 * i)) (λ i. le16 bs (2 * i)) (length front / 2) n (vec_items c.in_ok-read_list.field-0) c.in_ok-read_list.ensures halves (seat bs n long front c.seats_and_prices.ensures.front);
      prices = same (λ k. le64 back (8 * k)) (λ k. le64 bs (2 * n + 8 * k)) (length back / 8) n (vec_items c.in_ok-read_list-2.field-0) c.in_ok-read_list-2.ensures eighths (price bs n long back c.seats_and_prices.ensures.back c.seats_and_prices.ensures.back_len);
    }
