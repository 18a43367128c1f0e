mod Copying
mod Examples
