-- How many device calls are left after a change of one slave.
use Rattle.std.proofs.Common.{◌≡◌, ℕ, zero, suc, ◌+◌, ◌<◌, List, [], ◌∷◌, length, get_or, set, sym, subst, arith}
use Rattle.std.proofs.lemmas.List.Sums.{sum_by-set}
use Rattle.jrn_format.specs.declared.journal.Entry.{Entry}
use Rattle.book_model.specs.Book.{Book, Slave, nobody, slave_at, with_slave}
use Rattle.book_model.specs.Reading.{all_entries}
use Rattle.book_model.specs.Worn.{named_for}
use Rattle.site_journal.specs.Left.{slave_calls, slaves_calls, calls_left, words_issued}

calls-set : (entries : List Entry) (first : ℕ) (slaves : List Slave) (i k : ℕ) (slave : Slave) → i < length slaves → k ≡ first + i
    → slaves_calls entries first (set slaves i slave) + slave_calls (named_for entries k) (get_or slaves i nobody) ≡ slaves_calls entries first slaves + slave_calls (named_for entries k) slave
calls-set entries first [] i k slave within is = absurd (omega arith)
calls-set entries first (s ∷ slaves) zero k slave within is =
    let same : first ≡ k = omega arith in
    subst (λ (n : ℕ). (slave_calls (named_for entries n) slave + slaves_calls entries (suc first) slaves) + slave_calls (named_for entries k) s ≡ (slave_calls (named_for entries n) s + slaves_calls entries (suc first) slaves) + slave_calls (named_for entries k) slave)
    (sym same) (omega arith)
calls-set entries first (s ∷ slaves) (suc i) k slave within is = omega (arith, calls-set entries (suc first) slaves i k slave (omega arith) (omega arith))

-- one slave of the book
pub calls-with : (book : Book) (i : ℕ) (slave : Slave) → i < length book.slaves
    → calls_left (with_slave book i slave) + slave_calls (named_for (all_entries book) i) (slave_at book i) ≡ calls_left book + slave_calls (named_for (all_entries book) i) slave
calls-with book i slave within = omega (arith, calls-set (all_entries book) 0 book.slaves i i slave within (omega arith))

pub issued-with : (book : Book) (i : ℕ) (slave : Slave) → i < length book.slaves → words_issued (with_slave book i slave).slaves + (slave_at book i).issues ≡ words_issued book.slaves + slave.issues
issued-with book i slave within = sum_by-set (λ (s : Slave). s.issues) book.slaves i slave nobody within
