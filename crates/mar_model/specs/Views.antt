-- What a contract sees of faults and of what is stored, and of open syncs.
use Rattle.std.specs.Prelude.{List, ℕ}
use Rattle.mar_cert.specs.Finalization.{Finalization}
use Rattle.mar_store.specs.Kept.{At}
use Rattle.mar_model.specs.Faults.{Fault, StoreName, TicketKind, ack_kind, block_store, cache_store, cert_store, corrupt, dropped_ack, genesis_height, genesis_mismatch, height_limit, meta_store, store_fault, sync_kind, ticket_limit, unbacked, want_of_memory}
use Rattle.mar_model.specs.declared.fault.Fault.{Fault as FaultCode}
use Rattle.mar_model.specs.declared.fault.Fault.TheVariants as fault
use Rattle.mar_model.specs.declared.fault.StoreName.{StoreName as StoreNameCode}
use Rattle.mar_model.specs.declared.fault.StoreName.TheVariants as store
use Rattle.mar_model.specs.declared.fault.TicketKind.{TicketKind as TicketKindCode}
use Rattle.mar_model.specs.declared.fault.TicketKind.TheVariants as kind
pub use Rattle.mar_gate.specs.Views.{pooled_of}

abbrev pub store_name_of : StoreNameCode → StoreName
store_name_of store.Blocks = block_store
store_name_of store.Certs = cert_store
store_name_of store.Meta = meta_store
store_name_of store.Cache = cache_store

abbrev pub kind_of : TicketKindCode → TicketKind
kind_of kind.Ack = ack_kind
kind_of kind.Sync = sync_kind

-- by what commitments are as bytes
abbrev pub fault_of : {C : Type 0} → (C → List ℕ) → FaultCode C → Fault
fault_of bytes (fault.StoreFault s) = store_fault (store_name_of s)
fault_of bytes (fault.GenesisHeight h) = genesis_height h
fault_of bytes (fault.GenesisMismatch configured stored) = genesis_mismatch (bytes configured) (bytes stored)
fault_of bytes (fault.Corrupt h block payload) = corrupt h (bytes block) (bytes payload)
fault_of bytes (fault.Unbacked h) = unbacked h
fault_of bytes (fault.HeightLimit h) = height_limit h
fault_of bytes (fault.AckDropped h) = dropped_ack h
fault_of bytes (fault.TicketLimit k) = ticket_limit (kind_of k)
fault_of bytes fault.Memory = want_of_memory

-- a finalization with the height at which it is stored
abbrev pub entry_of : {F : Type 0} → (F → Finalization) → ℕ × F → At Finalization
entry_of plain x = record { height = x.0; value = plain x.1 }
