mod Loading
mod Lines
mod Going
mod Final
