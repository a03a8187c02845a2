use Rattle.nd_npy_run.proofs.fault_messages.put_head_error.Goals as goal

pub returns-in-NoMagic : goal.returns-in-NoMagic
returns-in-NoMagic g c = rw c.in-NoMagic.is c.put.ensures

pub returns-in-UnknownVersion : goal.returns-in-UnknownVersion
returns-in-UnknownVersion g c = rw c.in-UnknownVersion.is c.put_version.ensures

pub returns-in-TooShort : goal.returns-in-TooShort
returns-in-TooShort g c = rw c.in-TooShort.is c.put-in-TooShort.ensures

pub returns-in-BadByte : goal.returns-in-BadByte
returns-in-BadByte g c = rw c.in-BadByte.is c.put_bad_byte.ensures

pub returns-in-TooLarge : goal.returns-in-TooLarge
returns-in-TooLarge g c = rw c.in-TooLarge.is c.put-in-TooLarge.ensures

pub returns-in-Memory : goal.returns-in-Memory
returns-in-Memory g c = rw c.in-Memory.is c.put-in-Memory.ensures
