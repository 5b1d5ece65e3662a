-- Datagrams that may go to a slave.
use Rattle.std.proofs.Common.{◌≡◌, ℕ, ◌+◌, ◌^◌, ◌<◌, true, ◌++◌, length, refl, sym, subst, ◌∙◌, arith, Some}
use Rattle.std.specs.Prelude.{IsTrue}
use Rattle.std.specs.Int.{w16, to_le_bytes}
use Rattle.ecat_frame.specs.Frame.{Pdu}
use Rattle.esc_model.specs.Orders.{clear_order, write_order}
use Rattle.esc_model.specs.SlaveHalf.{SlaveHalf, Activity, Idle, Reading, Writing, is_busy, in_flight}
use Rattle.esc_model.specs.declared.rest.WordWrite.{WordWrite}
use Rattle.esc_model.proofs.WordTaking.{number_back}
use Rattle.site_wire.specs.Orders.{words_order}
use Rattle.site_wire.specs.Due.{WritesControl, is_command, none, reads, writes, IsFit, clears, IsDue}
use Rattle.site_wire.specs.Due as due
use Rattle.esc_model.proofs.Addressing.{register_is}

-- a word in flight is being written
pub writing_by : (activity : Activity) (write : WordWrite) → in_flight activity ≡ Some write → activity ≡ Writing write.word write.value
writing_by Idle write e = absurd cc
writing_by Reading write e = absurd cc
writing_by (Writing word value) write e = cc

-- a read of registers
pub read_due : (half : SlaveHalf) (d : Pdu) → d.command ≡ 4 → IsDue half d
read_due half d is_read = record {
  fits = record { from = λ command. absurd (none_of command); names = λ command. absurd (none_of command) };
  quiet = λ busy write. absurd (let e : 4 ≡ 5 = sym is_read ∙ write.write in omega arith);
}
  where
    none_of : is_command d ≡ true → ⊥
    none_of command = absurd (let e : is_command (record d { command = 4 }) ≡ true = subst (λ (c : ℕ). is_command (record d { command = c }) ≡ true) is_read command in cc)

module _ (half : SlaveHalf) (d : Pdu) (slave : ℕ) (near : slave < 64) where
  -- command 000
  pub clear_due : d ≡ clear_order slave → IsDue half d
  clear_due is = subst (IsDue half) (sym is) (record {
    fits = record { from = λ command. register_is slave 0x0502 near; names = λ command. none (omega arith) refl };
    quiet = λ busy write. clears (register_is slave 0x0502 near) refl;
  })

  -- command 001, with words of data after it
  pub words_due : (word held : ℕ) → word < 2 ^ 16 → word + 1 < length half.words → d ≡ words_order slave word held → IsDue half d
  words_due word held small inside is = subst (IsDue half) (sym is) (record {
    fits = record {
      from = λ command. register_is slave 0x0502 near;
      names = λ command. reads (omega arith) refl (subst (λ (n : ℕ). n + 1 < length half.words) (sym (number_back word small)) inside);
    };
    quiet = λ busy write. due.reads word (to_le_bytes w16 held ++ to_le_bytes w16 held) (register_is slave 0x0502 near) refl;
  })

  -- command 010, of the word in flight
  pub write_due : (write : WordWrite) → write.word < 2 ^ 16 → write.value < 2 ^ 16 → write.word < length half.words → in_flight half.activity ≡ Some write
      → d ≡ write_order slave write.word write.value → IsDue half d
  write_due write small fits inside flying is = subst (IsDue half) (sym is) (record {
    fits = record {
      from = λ command. register_is slave 0x0502 near;
      names = λ command. writes (omega arith) refl (subst (λ (n : ℕ). n < length half.words) (sym (number_back write.word small)) inside);
    };
    quiet = λ busy writes_it.
        due.writes write.word write.value (writing_by half.activity write flying) small fits (register_is slave 0x0502 near) refl;
  })

-- what the shadow takes, unless it is busy and takes nothing of it
pub sent_due : (half : SlaveHalf) (d : Pdu) → IsFit half d → (IsTrue (is_busy half.activity) → ¬ WritesControl d) → IsDue half d
sent_due half d fits quiet = record { fits = fits; quiet = λ busy write. absurd (quiet busy write) }
